use Rattle.lldp_pdu.specs.View.{msap_view}
use Rattle.lldp_table.proofs.Slots.Search.{none_of}
use Rattle.lldp_table.proofs.order.place_of.Goals as goal

pub returns : goal.returns
returns c = none_of c.args.tags.now c.args.slots.now c.requires.tagged (msap_view c.args.name.now) c.args.order.now c.tagged.from c.requires.within c.tagged.invariant.none (rw c.requires.tag at c.in_default.ensures)
