-- Which TLVs of a sound LLDPDU with a TTL above 0 are kept (IEEE 802.1AB-2009, 9.2.7.7.2).
use Rattle.std.specs.Prelude.{◌≡◌, ℕ, ◌+◌, ◌≤◌, Bool, true, not, ◌&&◌, List, [], ◌∷◌, length, nat_le, ◌==◌, if◌then◌else◌}
use Rattle.std.specs.List.{list_any, filter}
use Rattle.lldp_pdu.specs.Range.{is_between, most_body}
use Rattle.lldp_pdu.specs.Tlv.{TlvUnit}
use Rattle.lldp_pdu.specs.TlvType.{port_description_type, system_capabilities_type, first_reserved_type, organizationally_specific_type}
use Rattle.lldp_pdu.specs.WellFormed.{is_well_formed}
use Rattle.lldp_pdu.specs.Lldpdu.{later_tlvs, ended_incomplete}

-- true for Port Description to System Capabilities: at most one TLV of each of these types is kept
abbrev pub is_single : ℕ → Bool
is_single kind = is_between port_description_type kind system_capabilities_type

-- the list has a well-formed TLV of this type
abbrev pub has_well_formed : ℕ → List TlvUnit → Bool
has_well_formed kind us = list_any (λ u. (u.kind == kind) && is_well_formed u) us

-- A well-formed TLV is kept, unless `is_single` is true for its type and an earlier well-formed TLV
-- has the same type.
abbrev pub is_kept : List TlvUnit → TlvUnit → Bool
is_kept earlier u = is_well_formed u && not (is_single u.kind && has_well_formed u.kind earlier)

-- the kept TLVs of the second list, in order, if the TLVs of the first list precede them
abbrev pub kept_after : List TlvUnit → List TlvUnit → List TlvUnit
kept_after earlier [] = []
kept_after earlier (u ∷ us) = if is_kept earlier u then u ∷ kept_after (u ∷ earlier) us else kept_after (u ∷ earlier) us

-- the TLVs of the second list that are not kept, if those of the first list precede them
abbrev pub others_after : List TlvUnit → List TlvUnit → List TlvUnit
others_after earlier [] = []
others_after earlier (u ∷ us) =
    if is_kept earlier u then others_after (u ∷ earlier) us else u ∷ others_after (u ∷ earlier) us

-- the kept TLVs of an LLDPDU, all of them after the mandatory TLVs
unfoldable pub kept_of : List ℕ → List TlvUnit
kept_of octets = kept_after [] (later_tlvs octets)

-- the number of TLVs after the mandatory ones that are not kept, plus one for an incomplete TLV
unfoldable pub discarded_of : List ℕ → ℕ
discarded_of octets = length (others_after [] (later_tlvs octets)) + (if ended_incomplete octets then 1 else 0)

-- the number of these TLVs that are reserved or organizationally specific
abbrev pub count_unrecognized : List TlvUnit → ℕ
count_unrecognized us = length (filter (λ u. nat_le first_reserved_type u.kind) us)

-- each kept TLV has a type from 4 to 127 and a well-formed body of at most 511 octets
pub record IsKeptTlv (u : TlvUnit) : Type 0 where
  pub least : port_description_type ≤ u.kind
  pub greatest : u.kind ≤ organizationally_specific_type
  pub short : length u.body ≤ most_body
  pub well_formed : is_well_formed u ≡ true
