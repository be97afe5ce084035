-- A walk over the kept TLVs of an extent: the octets before the End Of LLDPDU or an incomplete TLV.
use Rattle.std.specs.Prelude.{◌≡◌, ℕ, ◌+◌, ◌-◌, ◌<◌, ◌≤◌, ◌==◌, Bool, false, List, [], ◌∷◌, length, take, drop, None, IsTrue, if◌then◌else◌}
use Rattle.lldp_pdu.specs.Tlv.{TlvUnit}
use Rattle.lldp_pdu.specs.Cut.{cut}
use Rattle.lldp_pdu.specs.Fault.{fault_of}
use Rattle.lldp_pdu.specs.Lldpdu.{extent, ttl_of}
use Rattle.lldp_pdu.specs.Code.Seen.{kept_seen}
use Rattle.lldpa_c.specs.declared.kept.LldpaKept.{LldpaKept}
use Rattle.lldpa_c.specs.Place.{octets_at, IsIn}

-- the octets are the extent of an LLDPDU without a fault and with a TTL above 0
pub record IsExtent (octets : List ℕ) : Type 0 where
  pub sound : fault_of octets ≡ None
  pub lives : 0 < ttl_of octets
  pub whole : extent octets ≡ octets

-- the TLVs from an offset on; for 0, those after the first three
abbrev pub tlvs_from : List ℕ → ℕ → List TlvUnit
tlvs_from octets next = if next == 0 then drop 3 (cut octets).tlvs else (cut (drop next octets)).tlvs

-- the kept TLVs that a walk has not found yet
abbrev pub left_of : List ℕ → LldpaKept → List TlvUnit
left_of octets walk = kept_seen walk.met (tlvs_from octets walk.next)

-- The walk finds the first of the kept TLVs that are left, and then the others are left. If none is
-- left, it finds nothing, and stays as it is.
pub record Advances (octets : List ℕ) (before : LldpaKept) (found : Bool) (after : LldpaKept) : Type 0 where
  pub given : IsTrue found → left_of octets before
      ≡ record { kind = after.kind; body = octets_at octets after.body } ∷ left_of octets after
  pub within : IsTrue found → IsIn octets after.body
  pub ended : found ≡ false → left_of octets before ≡ []
  pub kept : found ≡ false → after ≡ before

-- The octets end with a TLV header of two octets, this body, and `others`.
pub record GivesKept (octets body others : List ℕ) : Type 0 where
  pub within : 2 + length body + length others ≤ length octets
  pub held : take (length body) (drop (length octets - length others - length body) octets) ≡ body
  pub behind : others ≡ drop (length octets - length others) octets
