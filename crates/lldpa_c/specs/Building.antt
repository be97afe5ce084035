-- Puts TLVs into an LLDPDU, one after another.
use Rattle.std.specs.Prelude.{◌≡◌, ℕ, ◌<◌, ◌≤◌, List, [], ◌∷◌, length, map, take, drop, slice_index_or, Option, Some, None}
use Rattle.lldp_pdu.specs.declared.fault.BuildFault.{BuildFault}
use Rattle.lldp_pdu.specs.Tlv.{TlvUnit}
use Rattle.lldp_pdu.specs.Draft.{Draft, IsReadBack, lldpdu_octets, with_tlv, put_fault}
use Rattle.lldp_pdu.specs.Msap.{IsIdentifier}
use Rattle.lldpa_c.specs.declared.build.LldpaTlv.{LldpaTlv}
use Rattle.lldpa_c.specs.Faults.{tlv_fault_number}
use Rattle.lldpa_c.specs.Place.{KeepsRest}

-- the type and the body of a TLV, without its address in memory
abbrev pub tlv_of : LldpaTlv → TlvUnit
tlv_of t = record { kind = t.kind; body = t.body.now }

-- the number of a fault, or 0
abbrev pub fault_number : Option BuildFault → ℕ
fault_number None = 0
fault_number (Some fault) = tlv_fault_number fault

-- an LLDPDU that has only its mandatory TLVs
abbrev pub begun : List ℕ → List ℕ → ℕ → Draft
begun chassis port ttl = record { msap = record { chassis = chassis; port = port }; ttl = ttl; tlvs = [] }

-- the LLDPDU with this TLV added, unless the TLV has a fault
abbrev pub put_unless : Option BuildFault → Draft → TlvUnit → Draft
put_unless None d u = with_tlv d u
put_unless (Some fault) d u = d

-- the LLDPDU with these TLVs added in order, except those that have a fault
abbrev pub put_all : Draft → List TlvUnit → Draft
put_all d [] = d
put_all d (u ∷ us) = put_all (put_unless (put_fault d u) d u) us

-- for each TLV in order, the number of its fault, or 0
abbrev pub put_faults : Draft → List TlvUnit → List ℕ
put_faults d [] = []
put_faults d (u ∷ us) = fault_number (put_fault d u) ∷ put_faults (put_unless (put_fault d u) d u) us

-- the LLDPDU with these identifiers and this TTL, and those of the TLVs that have no fault
abbrev pub drafted : List ℕ → List ℕ → ℕ → List LldpaTlv → Draft
drafted chassis port ttl tlvs = put_all (begun chassis port ttl) (map tlv_of tlvs)

-- The contract of building. The first of these that applies is answered: 100 if an identifier has
-- another length, 101 if there is no number for each TLV, 101 if the LLDPDU does not fit, or 0. The
-- LLDPDU is written if the answer is 0, and the numbers of the faults unless one of the first two applies.
pub record Builds (chassis port : List ℕ) (ttl : ℕ) (tlvs : List LldpaTlv) (faults_before room_before : List ℕ) (written_before answer : ℕ)
    (faults room : List ℕ) (written : ℕ) : Type 0 where
  pub fits : IsIdentifier chassis → IsIdentifier port → length tlvs ≤ length faults_before →
      length (lldpdu_octets (drafted chassis port ttl tlvs)) ≤ length room_before → answer ≡ 0
  pub octets : answer ≡ 0 → take written room ≡ lldpdu_octets (drafted chassis port ttl tlvs)
  pub back : answer ≡ 0 → IsReadBack (drafted chassis port ttl tlvs) (take written room)
  pub over : IsIdentifier chassis → IsIdentifier port → length tlvs ≤ length faults_before →
      length room_before < length (lldpdu_octets (drafted chassis port ttl tlvs)) → answer ≡ 101
  pub faults_are : IsIdentifier chassis → IsIdentifier port → length tlvs ≤ length faults_before → (i : ℕ) → i < length tlvs →
      slice_index_or faults i 0 ≡ slice_index_or (put_faults (begun chassis port ttl) (map tlv_of tlvs)) i 0
  pub rest_of_faults : drop (length tlvs) faults ≡ drop (length tlvs) faults_before
  pub rest_of_room : answer ≡ 0 → KeepsRest written room_before room
  pub range : ¬ (IsIdentifier chassis × IsIdentifier port) → (answer ≡ 100) × (faults ≡ faults_before)
  pub short : IsIdentifier chassis → IsIdentifier port → length faults_before < length tlvs → (answer ≡ 101) × (faults ≡ faults_before)
  pub refused : ¬ (answer ≡ 0) → (room ≡ room_before) × (written ≡ written_before)
