use Rattle.std.proofs.Common.{sym}
use Rattle.lldp_transmit.specs.declared.event.Cause.TheVariants.{Nothing}
use Rattle.lldp_transmit.specs.History.{event}
use Rattle.lldp_transmit.proofs.Standing.{carries, marks}
use Rattle.lldp_transmit.proofs.laws.causeless_events_change_nothing.Goals as goal

pub returns : goal.returns
returns c = record {
  stands = λ s past t interval k. carries s past t (event Nothing interval) k;
  quiet = λ s past t interval k. sym (marks s past t (event Nothing interval) k);
}
