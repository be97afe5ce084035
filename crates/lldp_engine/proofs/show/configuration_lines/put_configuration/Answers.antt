use Rattle.lldp_engine.proofs.Lines.Taken.{takes_then}
use Rattle.lldp_engine.proofs.show.configuration_lines.put_configuration.Goals as goal

pub returns : goal.returns
returns g c = takes_then _ _ _ _ _ _ (rw c.in_order.ensures.shown at c.put_numbers.ensures) c.put_statuses.ensures
