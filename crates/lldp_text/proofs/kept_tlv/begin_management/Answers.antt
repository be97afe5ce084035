use Rattle.std.proofs.Common.{◌≡◌, Option, Some, ap, get_or, arith}
use Rattle.std.specs.Option.{option_map}
use Rattle.lldp_pdu.specs.declared.fields.Mgmt.{Mgmt}
use Rattle.lldp_pdu.specs.ManagementAddress.{Address, address_fields}
use Rattle.lldp_pdu.specs.View.{address_view}
use Rattle.lldp_text.specs.ManagementAddress.{management_text}
use Rattle.lldp_text.proofs.TextJoined.{behind}
use Rattle.lldp_text.proofs.kept_tlv.begin_management.Goals as goal
use Rattle.std.proofs.lemmas.Grind.{common_steps}

seen_is : (r : Option Mgmt) (m : Mgmt) (o : Option Address) (a : Address) → option_map address_view r ≡ o → o ≡ Some a → r ≡ Some m → address_view m ≡ a
seen_is r m o a e f g = grind (arith, common_steps)

pub returns-clause-value : goal.returns-clause-value
returns-clause-value g c =
    let e : address_view c.unwrap.result ≡ address_fields c.args.body.now (get_or c.args.body.now 0 0) = seen_is _ c.unwrap.result _ _ c.mgmt.ensures c.requires.well_formed.address c.unwrap.ensures in
    behind _ _ _ _ _ _ c.text.ensures c.begin_management_address.ensures.value (ap management_text e)
