-- The cursor is at the first of the neighbors that remain.
use Rattle.std.proofs.Common.{◌+◌, ◌≤◌, length}
use Rattle.lldp_engine.specs.Code.Cursor.{IsBehind}
use Rattle.lldp_engine.proofs.Lines.Cursors.{AreLeft}
use Rattle.lldp_engine.proofs.show.cursor.pass_neighbors.Given as goal

abbrev pub invariant-loop-entry : goal.invariant-loop-entry
invariant-loop-entry g l = record {
  at : IsBehind l.ports l.cursor;
  left : AreLeft l.ports l.cursor l.entry-iterator;
  few : l.cursor.neighbor + length l.entry-iterator ≤ 128;
  before : l.cursor.before ≤ l.from;
}
