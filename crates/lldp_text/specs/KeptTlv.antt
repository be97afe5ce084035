-- How kept TLVs are written in show lines.
use Rattle.std.specs.Prelude.{◌≡◌, ℕ, ◌≤◌, length, Some, ◌==◌, if◌then◌else◌, List, ◌++◌, take, drop, codes, decimal, slice_index}
use Rattle.hex.specs.Hex.{encode_lower}
use Rattle.lldp_pdu.specs.Tlv.{TlvUnit}
use Rattle.lldp_pdu.specs.TlvType.{port_description_type, system_name_type, system_description_type, system_capabilities_type, management_address_type, organizationally_specific_type}
use Rattle.lldp_pdu.specs.Capabilities.{caps_fields}
use Rattle.lldp_pdu.specs.ManagementAddress.{address_of, address_fields}
use Rattle.lldp_pdu.specs.Range.{most_address, most_oid}
use Rattle.lldp_text.specs.Text.{escaped}
use Rattle.lldp_text.specs.Capabilities.{capabilities_text}
use Rattle.lldp_text.specs.ManagementAddress.{management_text}

-- an organizationally specific TLV: the OUI (three octets) and the subtype as key, then the rest
abbrev pub organizational_text : List ℕ → List ℕ
organizational_text body =
    codes "org." ++ encode_lower (take 3 body) ++ codes "." ++ decimal (slice_index body 3) ++ codes "="
    ++ encode_lower (drop 4 body)

-- A kept TLV as key and value, by its type. One of a reserved type has the type as key, and the body
-- in hexadecimal.
abbrev pub tlv_text : TlvUnit → List ℕ
tlv_text tlv =
    if tlv.kind == port_description_type then codes "port.descr=" ++ escaped tlv.body
    else if tlv.kind == system_name_type then codes "chassis.name=" ++ escaped tlv.body
    else if tlv.kind == system_description_type then codes "chassis.descr=" ++ escaped tlv.body
    else if tlv.kind == system_capabilities_type then codes "chassis.caps=" ++ capabilities_text (caps_fields tlv.body)
    else if tlv.kind == management_address_type then
    codes "chassis.mgmt=" ++ management_text (address_fields tlv.body (slice_index tlv.body 0))
    else if tlv.kind == organizationally_specific_type then organizational_text tlv.body
    else codes "unknown." ++ decimal tlv.kind ++ codes "=" ++ encode_lower tlv.body

-- the body holds a management address of at most 31 octets, and an OID of at most 128 octets
pub record HasAddress (body : List ℕ) : Type 0 where
  pub address : address_of body ≡ Some (address_fields body (slice_index body 0))
  pub short : length (address_fields body (slice_index body 0)).address ≤ most_address
  pub oid : length (address_fields body (slice_index body 0)).oid ≤ most_oid
