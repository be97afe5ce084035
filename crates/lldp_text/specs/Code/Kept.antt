-- The texts of kept TLVs that have a function of their own.
use Rattle.std.specs.Prelude.{ℕ, List, ◌++◌, slice_index, codes, decimal}
use Rattle.hex.specs.Hex.{encode_lower}
use Rattle.lldp_pdu.specs.Tlv.{TlvUnit}
use Rattle.lldp_pdu.specs.Capabilities.{caps_fields}
use Rattle.lldp_pdu.specs.ManagementAddress.{address_fields}
use Rattle.lldp_text.specs.Capabilities.{capabilities_text}
use Rattle.lldp_text.specs.ManagementAddress.{management_text}

-- a System Capabilities TLV as key and value
abbrev pub system_capabilities_text : List ℕ → List ℕ
system_capabilities_text body = codes "chassis.caps=" ++ capabilities_text (caps_fields body)

-- a Management Address TLV as key and value
abbrev pub management_tlv_text : List ℕ → List ℕ
management_tlv_text body = codes "chassis.mgmt=" ++ management_text (address_fields body (slice_index body 0))

-- a TLV of a reserved type: the type as key, and the body in hexadecimal
abbrev pub unknown_text : TlvUnit → List ℕ
unknown_text tlv = codes "unknown." ++ decimal tlv.kind ++ codes "=" ++ encode_lower tlv.body
