use Rattle.std.proofs.Common.{take}
use Rattle.lldp_engine.specs.StatisticsLines.{statistics_lines}
use Rattle.lldp_engine.specs.Takes.{Takes}
use Rattle.lldp_engine.proofs.show.statistics_lines.put_statistics.Given as goal

-- the lines of the ports before this one were taken
abbrev pub invariant-loop-port : goal.invariant-loop-port
invariant-loop-port g l = Takes g.S.LineSink.takes l.fn.sink l.sink (statistics_lines (take l.port-index l.ports))
