-- The cursor is at a neighbor, and not behind line `from`.
use Rattle.std.proofs.Common.{◌≤◌}
use Rattle.lldp_engine.specs.Code.Cursor.{IsBehind}
use Rattle.lldp_engine.proofs.show.cursor.seek.Given as goal

abbrev pub invariant-loop-port : goal.invariant-loop-port
invariant-loop-port g l = record {
  at : IsBehind l.ports l.cursor;
  before : l.cursor.before ≤ l.from;
}
