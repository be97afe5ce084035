use Rattle.std.proofs.Common.{Some, ap, ◌∙◌, sym, subst}
use Rattle.std.specs.List.{slice_get}
use Rattle.lldp_table.specs.Contents.{Contents, IsHeld}
use Rattle.lldp_table.proofs.Slots.Counted.{shown_is}
use Rattle.lldp_table.proofs.Slots.Layout.{place_used, held_at, get_at}
use Rattle.lldp_table.proofs.Slots.Learned.{entry_shown}
use Rattle.lldp_table.proofs.table.Table.entry.Goals as goal

pub invariant_of-result : goal.invariant_of-result
invariant_of-result g c =
    let l = place_used c.self.invariant.table.laid (shown_is c.self.view_is) c.args.i c.requires in
    rw c.left_of.ensures (subst IsHeld (sym (entry_shown c.self.invariant.table c.args.i l c.deref.result.now c.at.result.now c.deref.ensures.0 c.at.ensures)) (held_at c.self.invariant.table.laid c.args.i l))

pub returns-clause-value : goal.returns-clause-value
returns-clause-value g c =
    let l = place_used c.self.invariant.table.laid (shown_is c.self.view_is) c.args.i c.requires in
    ap (λ (table : Contents). slice_get table.neighbors c.args.i) (sym (shown_is c.self.view_is))
    ∙ get_at c.self.invariant.table.laid c.args.i l
    ∙ ap Some (sym (rw c.left_of.ensures (entry_shown c.self.invariant.table c.args.i l c.deref.result.now c.at.result.now c.deref.ensures.0 c.at.ensures)))

pub returns-clause-held : goal.returns-clause-held
returns-clause-held g c = invariant_of-result g c
