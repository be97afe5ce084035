-- The cut of a list of octets into complete TLVs and a rest.
use Rattle.std.specs.Prelude.{◌≡◌, ℕ, zero, suc, ◌+◌, ◌*◌, ◌/◌, ◌%◌, List, [], ◌∷◌, ◌++◌, length, take, drop, Option, Some, None, nat_lt, if◌then◌else◌}
use Rattle.std.specs.List.{AllByRecursion}
use Rattle.lldp_pdu.specs.Tlv.{TlvUnit, IsTlv, spellings, BeginsTlv}

-- the complete TLVs from the front, and the octets after them
pub record Cut : Type 0 where
  pub tlvs : List TlvUnit
  pub rest : List ℕ

-- The octets are the encoded TLVs and then the rest, which does not begin with a complete TLV.
pub record IsCut (octets : List ℕ) (c : Cut) : Type 0 where
  pub joined : octets ≡ spellings c.tlvs ++ c.rest
  pub complete : AllByRecursion IsTlv c.tlvs
  pub ended : ¬ (BeginsTlv c.rest)

-- ---- the cut, computed from the front; it is the only one (the law `octets_have_one_cut`)

-- the TLV at the front and the octets after it, or None if no complete TLV is there
abbrev pub first_tlv : List ℕ → Option (TlvUnit × List ℕ)
first_tlv [] = None
first_tlv (high ∷ []) = None
first_tlv (high ∷ low ∷ octets) =
    let header = 256 * high + low in
    if nat_lt (length octets) (header % 512) then None
    else Some (record { kind = header / 512; body = take (header % 512) octets }, drop (header % 512) octets)

-- the first TLV, then the cut of the octets after it; without a first TLV, all octets are the rest
abbrev pub cut_after : Option (TlvUnit × List ℕ) → (List ℕ → Cut) → List ℕ → Cut
cut_after None after octets = record { tlvs = []; rest = octets }
cut_after (Some x) after octets = record { tlvs = x.0 ∷ (after x.1).tlvs; rest = (after x.1).rest }

-- the cut of the octets, stopped after at most n TLVs
unfoldable pub cut_within : ℕ → List ℕ → Cut
cut_within zero octets = record { tlvs = []; rest = octets }
cut_within (suc n) octets = cut_after (first_tlv octets) (cut_within n) octets

-- the cut of the octets; it cannot have more TLVs than there are octets
unfoldable pub cut : List ℕ → Cut
cut octets = cut_within (length octets) octets
