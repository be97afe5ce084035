use Rattle.std.proofs.Common.{ap, ◌∙◌}
use Rattle.lldp_table.specs.Contents.{Contents, least_left}
use Rattle.lldp_table.proofs.Slots.Counted.{shown_is}
use Rattle.lldp_table.proofs.Slots.Learned.{soonest_shown}
use Rattle.lldp_table.proofs.table.Table.soonest.Goals as goal

pub returns : goal.returns
returns g c = c.soonest.ensures ∙ soonest_shown c.self.invariant.table ∙ ap (λ (table : Contents). least_left table.neighbors) (shown_is c.self.view_is)
