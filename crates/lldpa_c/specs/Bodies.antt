-- The fields of System Capabilities and Management Address TLVs, in the structs for C.
use Rattle.std.specs.Prelude.{ℕ, ◌+◌, List, length}
use Rattle.lldp_pdu.specs.declared.fields.Caps.{Caps}
use Rattle.lldp_pdu.specs.ManagementAddress.{Address}
use Rattle.lldpa_c.specs.declared.bodies.LldpaCapabilities.{LldpaCapabilities}
use Rattle.lldpa_c.specs.declared.bodies.LldpaManagement.{LldpaManagement}
use Rattle.lldpa_c.specs.Place.{octets_at, IsIn}

-- the capabilities in the struct
abbrev pub caps_told : LldpaCapabilities → Caps
caps_told c = record { available = c.available; enabled = c.enabled }

-- the management address in the struct, with its octets read from the body
abbrev pub address_told : List ℕ → LldpaManagement → Address
address_told body m = record {
  family = m.family;
  address = octets_at body m.address;
  numbering = m.numbering;
  interface = m.interface;
  oid = octets_at body m.oid;
}

-- both ranges lie in the body
pub record IsWithin (body : List ℕ) (m : LldpaManagement) : Type 0 where
  pub address : IsIn body m.address
  pub oid : IsIn body m.oid

-- the struct for an address; the body has 2 octets, the address, 6 octets, the object identifier
abbrev pub management_of : Address → LldpaManagement
management_of a = record {
  address = record { start = 2; length = length a.address };
  oid = record { start = 2 + length a.address + 6; length = length a.oid };
  interface = a.interface;
  family = a.family;
  numbering = a.numbering;
}
