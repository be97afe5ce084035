use Rattle.std.proofs.Common.{take}
use Rattle.lldp_engine.specs.NeighborLines.{neighbors_lines}
use Rattle.lldp_engine.specs.Takes.{Takes}
use Rattle.lldp_engine.proofs.show.neighbor_lines.put_neighbors.Given as goal

-- The sink has taken the lines of the ports before this one.
abbrev pub invariant-loop-port : goal.invariant-loop-port
invariant-loop-port g l = Takes g.S.LineSink.takes l.fn.sink l.sink (neighbors_lines (take l.port-index l.ports))
