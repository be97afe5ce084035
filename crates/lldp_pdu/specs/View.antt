-- The values of TLVs and their fields in contracts, and what a call of `Tlvs::next` does.
use Rattle.std.specs.Prelude.{◌≡◌, ℕ, ◌+◌, List, [], ◌∷◌, length, drop, Option, MatchOption}
use Rattle.lldp_pdu.specs.declared.tlv.Tlv.{Tlv}
use Rattle.lldp_pdu.specs.declared.fields.Mgmt.{Mgmt}
use Rattle.lldp_pdu.specs.declared.fields.Msap.{Msap}
use Rattle.lldp_pdu.specs.ManagementAddress.{Address}
use Rattle.lldp_pdu.specs.Msap.{MsapId}
use Rattle.lldp_pdu.specs.Tlv.{TlvUnit}
use Rattle.lldp_pdu.specs.Cut.{cut}

-- a TLV as a value: its type and the octets of its body
abbrev pub tlv_view : Tlv → TlvUnit
tlv_view t = record { kind = t.kind; body = t.body.now }

-- A call of `next` on these octets returns the first TLV of their cut. The cut of the octets that
-- are left has the other TLVs and the same rest. Without a first TLV, the octets do not change.
abbrev pub GivesFirstTlv : List ℕ → Option Tlv → List ℕ → Type 0
GivesFirstTlv octets given left =
    MatchOption given
    ((cut octets ≡ record { tlvs = []; rest = octets }) × (left ≡ octets))
    (λ t. (cut octets ≡ record { tlvs = tlv_view t ∷ (cut left).tlvs; rest = (cut left).rest })
    × (left ≡ drop (2 + length t.body.now) octets))

-- a management address as a value
abbrev pub address_view : Mgmt → Address
address_view a = record {
  family = a.family;
  address = a.address.now;
  numbering = a.numbering;
  interface = a.interface;
  oid = a.oid.now;
}

-- an MSAP identifier as a value
abbrev pub msap_view : Msap → MsapId
msap_view m = record { chassis = m.chassis.now; port = m.port.now }
