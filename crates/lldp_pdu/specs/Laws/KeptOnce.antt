-- Which TLVs after the mandatory ones are kept (IEEE 802.1AB-2009, 9.2.7.7.2).
use Rattle.std.specs.Prelude.{◌≡◌, ◌≢◌, ℕ, ◌+◌, ◌<◌, ◌≤◌, true, List, [], ◌∷◌, length}
use Rattle.std.specs.List.{AllByRecursion}
use Rattle.lldp_pdu.specs.Tlv.{TlvUnit}
use Rattle.lldp_pdu.specs.WellFormed.{is_well_formed}
use Rattle.lldp_pdu.specs.Cut.{cut}
use Rattle.lldp_pdu.specs.Lldpdu.{later_tlvs}
use Rattle.lldp_pdu.specs.Kept.{kept_after, kept_of, discarded_of}

-- The TLV is well formed, and if its type is 4 to 7, no earlier well-formed TLV has that type.
pub record IsFirst (earlier : List TlvUnit) (u : TlvUnit) : Type 0 where
  pub well_formed : is_well_formed u ≡ true
  pub once : 4 ≤ u.kind → u.kind ≤ 7 →
      AllByRecursion (λ (e : TlvUnit). ¬ ((e.kind ≡ u.kind) × (is_well_formed e ≡ true))) earlier

-- After the TLVs `earlier` and before `us`, the TLV `u` is kept exactly if `IsFirst` holds.
pub record AreKeptOnce (earlier : List TlvUnit) (u : TlvUnit) (us : List TlvUnit) : Type 0 where
  pub none : kept_after earlier [] ≡ []
  pub kept : IsFirst earlier u → kept_after earlier (u ∷ us) ≡ u ∷ kept_after (u ∷ earlier) us
  pub left : ¬ (IsFirst earlier u) → kept_after earlier (u ∷ us) ≡ kept_after (u ∷ earlier) us

-- No complete TLV is an End Of LLDPDU, and octets are left after the last complete TLV.
pub record EndIncomplete (octets : List ℕ) : Type 0 where
  pub no_end : AllByRecursion (λ (u : TlvUnit). u.kind ≢ 0) (cut octets).tlvs
  pub rest : 0 < length (cut octets).rest

-- Each later TLV is kept or discarded. An incomplete TLV (`EndIncomplete`) is discarded too.
pub record AreCounted (octets : List ℕ) : Type 0 where
  pub kept : kept_of octets ≡ kept_after [] (later_tlvs octets)
  pub incomplete : EndIncomplete octets → discarded_of octets + length (kept_of octets) ≡ length (later_tlvs octets) + 1
  pub complete : ¬ (EndIncomplete octets) → discarded_of octets + length (kept_of octets) ≡ length (later_tlvs octets)
