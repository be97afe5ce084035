use Rattle.lldp_pdu.specs.View.{msap_view}
use Rattle.lldp_table.proofs.Slots.Counted.{shown_is}
use Rattle.lldp_table.proofs.Slots.Layout.{place_of_name}
use Rattle.lldp_table.proofs.table.Table.place.Goals as goal

pub returns : goal.returns
returns g c =
    place_of_name c.self.invariant.table.laid (msap_view c.args.name.now) c.place_of.result (rw (c.as_slice.ensures, c.deref.ensures.0) at c.place_of.ensures) (shown_is c.self.view_is)
