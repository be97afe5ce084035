-- The parts of an LLDPDU: extent, MSAP identifier, TTL and later TLVs (IEEE 802.1AB-2009, 8.2).
use Rattle.std.specs.Prelude.{ℕ, ◌+◌, ◌*◌, Bool, not, ◌&&◌, List, [], ◌∷◌, length, drop, nat_lt, ◌==◌, slice_index, slice_index_or, if◌then◌else◌}
use Rattle.std.specs.List.{list_any}
use Rattle.lldp_pdu.specs.Tlv.{TlvUnit, spellings}
use Rattle.lldp_pdu.specs.TlvType.{end_of_lldpdu_type}
use Rattle.lldp_pdu.specs.Cut.{cut}
use Rattle.lldp_pdu.specs.Msap.{MsapId}

-- the TLV is an End Of LLDPDU
abbrev pub is_end : TlvUnit → Bool
is_end u = u.kind == end_of_lldpdu_type

-- the TLVs before the first End Of LLDPDU, or all if there is none
abbrev pub before_end : List TlvUnit → List TlvUnit
before_end [] = []
before_end (u ∷ us) = if is_end u then [] else u ∷ before_end us

-- the TLVs of the extent: those before the first End Of LLDPDU
abbrev pub extent_tlvs : List ℕ → List TlvUnit
extent_tlvs octets = before_end (cut octets).tlvs

-- the extent: the octets of these TLVs, without an End Of LLDPDU, padding or an incomplete TLV
unfoldable pub extent : List ℕ → List ℕ
extent octets = spellings (extent_tlvs octets)

-- there is no End Of LLDPDU, and octets are left that are not a complete TLV
unfoldable pub ended_incomplete : List ℕ → Bool
ended_incomplete octets = not (list_any is_end (cut octets).tlvs) && nat_lt 0 (length (cut octets).rest)

-- the TLV at place i, from 0, or an empty End Of LLDPDU if there is none
abbrev pub tlv_at : List TlvUnit → ℕ → TlvUnit
tlv_at us i = slice_index_or us i (record { kind = end_of_lldpdu_type; body = [] })

-- the number in the first two octets of a Time To Live, most significant first
abbrev pub seconds : List ℕ → ℕ
seconds body = 256 * slice_index body 0 + slice_index body 1

-- the TTL, from the third TLV
unfoldable pub ttl_of : List ℕ → ℕ
ttl_of octets = seconds (tlv_at (cut octets).tlvs 2).body

-- the MSAP identifier, from the first two TLVs
unfoldable pub msap_of : List ℕ → MsapId
msap_of octets = record { chassis = (tlv_at (cut octets).tlvs 0).body; port = (tlv_at (cut octets).tlvs 1).body }

-- the TLVs of the extent after the three mandatory ones
unfoldable pub later_tlvs : List ℕ → List TlvUnit
later_tlvs octets = drop 3 (extent_tlvs octets)
