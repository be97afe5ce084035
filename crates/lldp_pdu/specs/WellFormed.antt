-- Which bodies are well formed, type by type (IEEE 802.1AB-2009, 8.5 and 8.6).
use Rattle.std.specs.Prelude.{Bool, true, ◌||◌, length, is_some, nat_le, ◌==◌, if◌then◌else◌}
use Rattle.lldp_pdu.specs.Tlv.{TlvUnit}
use Rattle.lldp_pdu.specs.TlvType.{chassis_id_type, port_id_type, time_to_live_type, port_description_type, system_description_type, system_capabilities_type, management_address_type, organizationally_specific_type}
use Rattle.lldp_pdu.specs.Range.{is_between, most_identifier, most_text}
use Rattle.lldp_pdu.specs.Capabilities.{caps_of}
use Rattle.lldp_pdu.specs.ManagementAddress.{address_of}

-- True if the body is well formed for its type; always true for End Of LLDPDU and reserved types.
unfoldable pub is_well_formed : TlvUnit → Bool
is_well_formed u =
    if u.kind == chassis_id_type || u.kind == port_id_type then is_between 2 (length u.body) most_identifier
    else (if u.kind == time_to_live_type then nat_le 2 (length u.body)
    else (if is_between port_description_type u.kind system_description_type then nat_le (length u.body) most_text
    else (if u.kind == system_capabilities_type then is_some (caps_of u.body)
    else (if u.kind == management_address_type then is_some (address_of u.body)
    else (if u.kind == organizationally_specific_type then nat_le 4 (length u.body)
    else true)))))
