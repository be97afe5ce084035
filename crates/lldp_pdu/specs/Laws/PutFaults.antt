-- Why a TLV can't be put: each check of `put`, for a TLV that passes those before it.
use Rattle.std.specs.Prelude.{◌≡◌, ◌≢◌, ◌+◌, ◌<◌, ◌≤◌, true, length, Some}
use Rattle.std.specs.List.{AllByRecursion}
use Rattle.lldp_pdu.specs.declared.fault.BuildFault.TheVariants.{Full, Kind, Body}
use Rattle.lldp_pdu.specs.Tlv.{TlvUnit, spellings}
use Rattle.lldp_pdu.specs.WellFormed.{is_well_formed}
use Rattle.lldp_pdu.specs.Draft.{Draft, all_tlvs, put_fault}
use Rattle.lldp_pdu.specs.Range.{most_body, most_octets}

-- The type is 4 to 127, the TTL is above 0, and if the type is 4 to 7, no TLV of it was put.
pub record MayFollow (d : Draft) (u : TlvUnit) : Type 0 where
  pub least : 4 ≤ u.kind
  pub greatest : u.kind ≤ 127
  pub lives : 0 < d.ttl
  pub new : u.kind ≤ 7 → AllByRecursion (λ (v : TlvUnit). v.kind ≢ u.kind) d.tlvs

-- The body has at most 511 octets and is well formed for its type.
pub record HasBody (u : TlvUnit) : Type 0 where
  pub short : length u.body ≤ most_body
  pub well_formed : is_well_formed u ≡ true

-- The fault is Kind if the TLV may not follow, else Body if its body is wrong, and else Full if the
-- LLDPDU would have more than 1,500 octets.
pub record IsRefused (d : Draft) (u : TlvUnit) : Type 0 where
  pub kind : ¬ (MayFollow d u) → put_fault d u ≡ Some Kind
  pub body : MayFollow d u → ¬ (HasBody u) → put_fault d u ≡ Some Body
  pub full : MayFollow d u → HasBody u → most_octets < length (spellings (all_tlvs d)) + length u.body + 4 →
      put_fault d u ≡ Some Full
