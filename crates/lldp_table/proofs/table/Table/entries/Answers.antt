use Rattle.std.proofs.Common.{ap, ◌∙◌}
use Rattle.lldp_table.specs.Contents.{Contents}
use Rattle.lldp_table.proofs.Slots.Counted.{shown_is}
use Rattle.lldp_table.proofs.Slots.Learned.{are_entries, entries_shown}
use Rattle.lldp_table.proofs.table.Table.entries.Goals as goal

pub invariant_of-result : goal.invariant_of-result
invariant_of-result g c = rw (c.as_slice.ensures, c.deref.ensures.0) (are_entries c.self.invariant.table c.lefts.result c.lefts.ensures)

pub returns-clause-value : goal.returns-clause-value
returns-clause-value g c =
    rw (c.as_slice.ensures, c.deref.ensures.0) (entries_shown c.self.invariant.table c.lefts.result c.lefts.ensures) ∙ ap (λ (table : Contents). table.neighbors) (shown_is c.self.view_is)
