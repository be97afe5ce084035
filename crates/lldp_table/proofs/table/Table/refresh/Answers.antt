use Rattle.std.proofs.Common.{◌≡◌, Some, ap, sym, ◌∙◌, refl, arith}
use Rattle.std.proofs.lemmas.Grind.{common_steps}
use Rattle.lldp_table.specs.Events.{Neighbor}
use Rattle.lldp_table.specs.Contents.{Contents}
use Rattle.lldp_table.specs.Outcomes.{octets_held}
use Rattle.lldp_pdu.specs.Lldpdu.{msap_of}
use Rattle.lldp_table.specs.Code.Steps.{learned_as}
use Rattle.lldp_table.specs.declared.learned.Learned.TheVariants.{Refreshed}
use Rattle.lldp_table.proofs.Slots.Counted.{shown_is}
use Rattle.lldp_table.proofs.Slots.Layout.{named_there, entry_at, octets_there}
use Rattle.lldp_table.proofs.Slots.Learned.{is_in, room_again, is_out, refreshed_after, refreshed_table, tagged_refreshed}
use Rattle.lldp_table.proofs.table.Table.refresh.Goals.{then-same, else-same}
use Rattle.lldp_table.proofs.table.Table.refresh.Goals as goal

pub leave-requires : goal.leave-requires
leave-requires g c =
    let f = named_there c.self.invariant.table.laid (shown_is c.self.view_is) (msap_of c.args.octets.now) c.args.at c.requires.there in
    rw c.deref.ensures.0 (is_in c.self.invariant.table c.args.at f.0)

pub enter-requires-clause-room : goal.enter-requires-clause-room
enter-requires-clause-room g c =
    let f = named_there c.self.invariant.table.laid (shown_is c.self.view_is) (msap_of c.args.octets.now) c.args.at c.requires.there in
    rw (c.leave.ensures, c.deref.ensures.0) (room_again c.self.invariant.table c.args.at f.0)

pub enter-requires-clause-new : goal.enter-requires-clause-new
enter-requires-clause-new g c =
    let f = named_there c.self.invariant.table.laid (shown_is c.self.view_is) (msap_of c.args.octets.now) c.args.at c.requires.there in
    rw (c.leave.ensures, c.deref.ensures.0) (is_out c.self.invariant.table c.args.at f.0)

pub invariant_of-self : goal.invariant_of-self
invariant_of-self g c =
    let f = named_there c.self.invariant.table.laid (shown_is c.self.view_is) (msap_of c.args.octets.now) c.args.at c.requires.there in
    let enter = rw c.leave.ensures at c.enter.ensures in
    record {
      table = refreshed_table c.self.invariant.table c.args.at f.0 c.store-same.ensures.octets c.store-same.ensures.ttl c.requires.extent f.1 c.deref.ensures.0 refl enter;
      tagged = tagged_refreshed c.self.invariant.table c.args.at f.0 c.store-same.ensures.octets c.store-same.ensures.ttl c.requires.extent f.1 c.deref.ensures.0 refl enter c.self.invariant.tagged;
    }

pub returns-clause-after : goal.returns-clause-after
returns-clause-after g c =
    let f = named_there c.self.invariant.table.laid (shown_is c.self.view_is) (msap_of c.args.octets.now) c.args.at c.requires.there in
    refreshed_after c.self.invariant.table c.args.at f.0 c.store-same.ensures.octets c.store-same.ensures.ttl c.requires.extent f.1 c.deref.ensures.0 refl (rw c.leave.ensures at c.enter.ensures)
    ∙ ap (λ (table : Contents). learned_as Refreshed table (msap_of c.args.octets.now) c.args.ttl c.args.octets.now) (shown_is c.self.view_is)

pub returns-clause-outcome : goal.returns-clause-outcome
returns-clause-outcome g c =
    let f = named_there c.self.invariant.table.laid (shown_is c.self.view_is) (msap_of c.args.octets.now) c.args.at c.requires.there in
    let slot = ap (λ (x : Neighbor). Some x.octets) (entry_at c.self.invariant.table.laid c.args.at c.deref.result.now c.at_mut.result.now c.deref.ensures.0 c.at_mut.ensures.value f.0) in
    let held : octets_held c.args.self.now.shown (msap_of c.args.octets.now) ≡ Some c.at_mut.result.now.octets =
    octets_there c.self.invariant.table.laid (shown_is c.self.view_is) (msap_of c.args.octets.now) c.args.at f.0 f.1 ∙ sym slot in
    elim c.if-same.branch [
      | then-same w ↦ rw (held, w.result-is) (grind (arith, common_steps))
      | else-same w ↦ rw (held, w.result-is) (grind (arith, common_steps))
    ]
