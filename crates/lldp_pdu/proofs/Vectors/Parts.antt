-- Definitions for the test vectors.
use Rattle.std.proofs.Common.{◌≡◌, ℕ, List, [], ◌∷◌, map, take, Option, Some, None}
use Rattle.lldp_pdu.specs.declared.fault.BuildFault.{BuildFault}
use Rattle.lldp_pdu.specs.Tlv.{TlvUnit}
use Rattle.lldp_pdu.specs.Msap.{MsapId}
use Rattle.lldp_pdu.specs.Lldpdu.{ttl_of, msap_of}
use Rattle.lldp_pdu.specs.Fault.{fault_of}
use Rattle.lldp_pdu.specs.FaultNumber.{build_fault_number}
use Rattle.lldp_pdu.specs.Info.{info_of}
use Rattle.lldp_pdu.specs.Draft.{Draft, with_tlv, put_fault}

abbrev pub tlv : ℕ → List ℕ → TlvUnit
tlv kind body = record { kind = kind; body = body }

-- `f` maps the first part of each row to the second part
abbrev pub Gives : {A B : Type 0} → (A → B) → List (A × B) → Type 0
Gives f rows = map (λ row. f row.0) rows ≡ map (λ row. row.1) rows

-- the LLDPDU is sound, with a TTL of 0 and this MSAP identifier
abbrev pub ShutsDown : List ℕ → MsapId → Type 0
ShutsDown octets msap = (fault_of octets ≡ None) × (ttl_of octets ≡ 0) × (msap_of octets ≡ msap)

-- the LLDPDU is sound and has these contents; `extent` is the number of octets in its extent
abbrev pub Tells : List ℕ → MsapId → ℕ → ℕ → List TlvUnit → ℕ → ℕ → Type 0
Tells octets msap ttl extent kept discarded unrecognized =
    (fault_of octets ≡ None)
    × (info_of octets
    ≡ record {
      msap = msap;
      ttl = ttl;
      octets = take extent octets;
      kept = kept;
      discarded = discarded;
      unrecognized = unrecognized;
    })

-- a draft to which no TLV was added yet
abbrev pub begun : MsapId → ℕ → Draft
begun msap ttl = record { msap = msap; ttl = ttl; tlvs = [] }

-- the number of a fault, or 0 for none
abbrev pub answer : Option BuildFault → ℕ
answer None = 0
answer (Some fault) = build_fault_number fault

-- the draft after `put`: with the TLV if there was no fault, and otherwise unchanged
abbrev pub behind : Draft → TlvUnit → Option BuildFault → Draft
behind draft u None = with_tlv draft u
behind draft u (Some fault) = draft

-- the results of calling `put` with each TLV in turn: the number of the fault, or 0 for success
abbrev pub answers : Draft → List TlvUnit → List ℕ
answers draft [] = []
answers draft (u ∷ us) = answer (put_fault draft u) ∷ answers (behind draft u (put_fault draft u)) us

-- the draft after `put` was called with each of these TLVs
abbrev pub given : Draft → List TlvUnit → Draft
given draft [] = draft
given draft (u ∷ us) = given (behind draft u (put_fault draft u)) us
