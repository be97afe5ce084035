use Rattle.std.proofs.Common.{ap, ◌∙◌, refl}
use Rattle.lldp_table.specs.Contents.{Contents}
use Rattle.lldp_pdu.specs.Lldpdu.{msap_of}
use Rattle.lldp_table.specs.Code.Steps.{learned_as}
use Rattle.lldp_table.specs.declared.learned.Learned.TheVariants.{New}
use Rattle.lldp_table.proofs.Slots.Counted.{shown_is}
use Rattle.lldp_table.proofs.Slots.Layout.{has_room, not_held}
use Rattle.lldp_table.proofs.Slots.Learned.{next_queued, new_after, new_table, tagged_new}
use Rattle.lldp_table.proofs.table.Table.admit.Goals as goal

pub enter-requires-clause-new : goal.enter-requires-clause-new
enter-requires-clause-new g c =
    next_queued c.self.invariant.table (has_room c.self.invariant.table.laid (shown_is c.self.view_is) c.requires.room) c.write_next.ensures.slots c.write_next.ensures.order c.deref.ensures.0

pub invariant_of-self : goal.invariant_of-self
invariant_of-self g c =
    let before = c.self.invariant.table in
    let room = has_room before.laid (shown_is c.self.view_is) c.requires.room in
    let none = not_held before.laid (shown_is c.self.view_is) (msap_of c.args.octets.now) c.requires.new in
    record {
      table = rw c.write_next.ensures.room (new_table before room c.write_next.ensures.slots c.write_next.ensures.order c.store.ensures.octets c.store.ensures.ttl c.requires.extent none c.deref.ensures.0 refl c.enter.ensures);
      tagged = tagged_new before room c.write_next.ensures.slots c.write_next.ensures.order c.store.ensures.octets c.store.ensures.ttl c.requires.extent none c.deref.ensures.0 refl c.enter.ensures c.self.invariant.tagged refl c.requires.tag;
    }

pub returns : goal.returns
returns g c =
    rw c.write_next.ensures.room
    (new_after c.self.invariant.table (has_room c.self.invariant.table.laid (shown_is c.self.view_is) c.requires.room) c.write_next.ensures.slots c.write_next.ensures.order c.store.ensures.octets c.store.ensures.ttl c.requires.extent
    (not_held c.self.invariant.table.laid (shown_is c.self.view_is) (msap_of c.args.octets.now) c.requires.new) c.deref.ensures.0 refl c.enter.ensures
    ∙ ap (λ (table : Contents). learned_as New table (msap_of c.args.octets.now) c.args.ttl c.args.octets.now) (shown_is c.self.view_is))
