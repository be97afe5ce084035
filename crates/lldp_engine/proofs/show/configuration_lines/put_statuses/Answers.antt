use Rattle.lldp_engine.specs.ConfigurationLines.{status_line}
use Rattle.lldp_engine.proofs.Lines.Taken.{takes_none, takes_next_line, takes_rest_lines}
use Rattle.lldp_engine.proofs.show.configuration_lines.put_statuses.Goals as goal

pub loop-port-init : goal.loop-port-init
loop-port-init g c = takes_none _ _

pub returns-then-is_done : goal.returns-then-is_done
returns-then-is_done g c = takes_rest_lines _ status_line _ _ c.args.ports.now _ c.loop-port.invariant (c.is_done.ensures c.if-is_done.true)

pub loop-port-preserved : goal.loop-port-preserved
loop-port-preserved g c = takes_next_line _ status_line _ _ _ c.args.ports.now _ _ _ c.loop-port-test.true c.port-item.is c.loop-port.invariant c.put_status.ensures
