use Rattle.std.proofs.Common.{◌+◌, ◌≤◌, length, drop}
use Rattle.lldp_engine.specs.NeighborLines.{numbered_lines}
use Rattle.lldp_engine.proofs.Lines.Taken.{TakesTo}
use Rattle.lldp_engine.proofs.show.neighbor_lines.put_numbered.Given as goal

-- The sink has taken all lines except those of the remaining neighbors.
abbrev pub invariant-loop-entry : goal.invariant-loop-entry
invariant-loop-entry g l = record {
  few : l.number + length l.entry-iterator ≤ 128;
  taken : TakesTo g.S.LineSink.takes l.fn.sink l.sink (numbered_lines l.port.name (l.number + 1) l.entry-iterator) (numbered_lines l.port.name (l.first + 1) (drop l.first l.port.table.neighbors));
}
