-- The value of a `Builder` in contracts, and the invariant of its fields.
use Rattle.std.specs.Prelude.{◌≡◌, ℕ, ◌+◌, ◌<◌, ◌≤◌, ◌^◌, Bool, true, List, [], ◌∷◌, length, drop, nat_lt}
use Rattle.std.specs.List.{AllByRecursion}
use Rattle.lldp_pdu.specs.declared.builder.Builder.TheInside.{Inside}
use Rattle.lldp_pdu.specs.Tlv.{TlvUnit, spellings}
use Rattle.lldp_pdu.specs.Cut.{cut}
use Rattle.lldp_pdu.specs.Msap.{IsIdentifier}
use Rattle.lldp_pdu.specs.Lldpdu.{msap_of, ttl_of}
use Rattle.lldp_pdu.specs.Kept.{is_kept, IsKeptTlv}
use Rattle.lldp_pdu.specs.Draft.{Draft, all_tlvs, was_put}
use Rattle.lldp_pdu.specs.Code.Seen.{Flags}
use Rattle.lldp_pdu.specs.Range.{most_octets}

-- the draft that the octets encode
unfoldable pub draft_of : List ℕ → Draft
draft_of octets = record { msap = msap_of octets; ttl = ttl_of octets; tlvs = drop 3 (cut octets).tlvs }

abbrev pub draft_view : Inside → Draft
draft_view b = draft_of b.octets.items

-- each TLV of the second list is kept, if the first list precedes the second
abbrev pub AllKept : List TlvUnit → List TlvUnit → Type 0
AllKept earlier [] = Unit {0}
AllKept earlier (u ∷ us) = (is_kept earlier u ≡ true) × AllKept (u ∷ earlier) us

pub record IsDraft (d : Draft) : Type 0 where
  pub chassis : IsIdentifier d.msap.chassis
  pub port : IsIdentifier d.msap.port
  pub ttl : d.ttl < 2 ^ 16
  pub tlvs : AllByRecursion IsKeptTlv d.tlvs
  pub kept : AllKept [] d.tlvs

-- The octets encode a draft and leave room for the End Of LLDPDU. `met` has the flags of the types
-- that were put, and `lives` is true exactly if the TTL is above 0.
pub record Builds (octets : List ℕ) (met : List Bool) (lives : Bool) : Type 0 where
  pub spelled : octets ≡ spellings (all_tlvs (draft_of octets))
  pub draft : IsDraft (draft_of octets)
  pub room : length octets + 2 ≤ most_octets
  pub flags : Flags met (λ kind. was_put kind (draft_of octets).tlvs)
  pub lives_is : lives ≡ nat_lt 0 (draft_of octets).ttl
