use Rattle.lldp_engine.specs.StatisticsLines.{counter_lines}
use Rattle.lldp_engine.proofs.Lines.Taken.{takes_none, takes_next, takes_rest}
use Rattle.lldp_engine.proofs.show.statistics_lines.put_statistics.Goals as goal

pub loop-port-init : goal.loop-port-init
loop-port-init g c = takes_none _ _

pub returns-then-is_done : goal.returns-then-is_done
returns-then-is_done g c = takes_rest _ counter_lines _ _ c.args.ports.now _ c.loop-port.invariant (c.is_done.ensures c.if-is_done.true)

pub loop-port-preserved : goal.loop-port-preserved
loop-port-preserved g c = takes_next _ counter_lines _ _ _ c.args.ports.now _ _ _ c.loop-port-test.true c.port-item.is c.loop-port.invariant c.put_counters.ensures
