use Rattle.std.proofs.Common.{take, map}
use Rattle.lldp_engine.specs.ConfigurationLines.{status_line}
use Rattle.lldp_engine.specs.Takes.{Takes}
use Rattle.lldp_engine.proofs.show.configuration_lines.put_statuses.Given as goal

-- The sink has taken the lines of the ports before this one.
abbrev pub invariant-loop-port : goal.invariant-loop-port
invariant-loop-port g l = Takes g.S.LineSink.takes l.fn.sink l.sink (map status_line (take l.port-index l.ports))
