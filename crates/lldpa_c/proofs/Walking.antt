-- One step of a walk over TLVs, and where the TLVs are in the octets.
use Rattle.std.proofs.Common.{◌≡◌, ℕ, ◌+◌, ◌-◌, ◌<◌, ◌≤◌, inl, inr, Bool, true, false, eqb, List, [], ◌∷◌, length, take, drop, refl, sym, ap, subst, ◌∙◌, arith}
use Rattle.std.proofs.lemmas.List.{length-drop, drop-drop}
use Rattle.lldp_pdu.specs.Tlv.{TlvUnit, AreOctets}
use Rattle.lldp_pdu.specs.Kept.{kept_of}
use Rattle.lldp_pdu.specs.Lldpdu.{later_tlvs}
use Rattle.lldp_pdu.specs.Cut.{Cut, first_tlv, cut}
use Rattle.lldp_pdu.specs.Code.Seen.{none_seen, kept_seen, is_kept_seen, seen_after}
use Rattle.std.proofs.lemmas.Bool.{ne_eqb}
use Rattle.std.proofs.lemmas.Grind.{common_steps}
use Rattle.lldp_pdu.proofs.Cuts.{cut_none, cut_some}
use Rattle.lldp_pdu.proofs.Keeping.{kept_seen-none}
use Rattle.lldp_pdu.proofs.Telling.{cut_extent, kept_tlvs_of}
use Rattle.lldpa_c.specs.Place.{EndsWith}
use Rattle.lldpa_c.specs.declared.kept.LldpaKept.{LldpaKept}
use Rattle.lldpa_c.specs.Walk.{GivesKept, IsExtent, tlvs_from, left_of}
use Rattle.lldpa_c.proofs.Places.{body_at, cases_Option}

abbrev in_front : TlvUnit → List ℕ → Cut
in_front u left = record { tlvs = u ∷ (cut left).tlvs; rest = (cut left).rest }

abbrev first_of : TlvUnit → List TlvUnit → TlvUnit
first_of u [] = u
first_of u (v ∷ vs) = v

-- the body of the first TLV begins after two octets
front_body : (octets left : List ℕ) (u : TlvUnit) → cut octets ≡ in_front u left
    → (take (length u.body) (drop 2 octets) ≡ u.body) × (2 + length u.body ≤ length octets)
front_body octets left u h = elim (cases_Option (first_tlv octets)) [
  | inl e ↦
      let no : [] ≡ u ∷ (cut left).tlvs = ap (λ (c : Cut). c.tlvs) (sym (cut_none octets e) ∙ h) in
      absurd cc
  | inr (x, e) ↦
      let same : x.0 ≡ u = ap (λ (c : Cut). first_of u c.tlvs) (sym (cut_some octets x.0 x.1 e) ∙ h) in
      subst (λ (v : TlvUnit). (take (length v.body) (drop 2 octets) ≡ v.body) × (2 + length v.body ≤ length octets)) same (body_at octets x.0 x.1 e)
]

-- if octets end with `a`, they also end with the part of `a` after its first TLV
pub still_ends : (octets a left : List ℕ) (u : TlvUnit) → EndsWith octets a → cut a ≡ in_front u left → left ≡ drop (2 + length u.body) a → EndsWith octets left
still_ends octets a left u ends h is =
    let b = front_body a left u h in
    let len : length left ≡ length a - (2 + length u.body) = ap length is ∙ length-drop _ a in
    let there : length octets - length a + (2 + length u.body) ≡ length octets - length left = omega (arith, len, b.1, ends.within) in
    record {
      within = omega (arith, len, ends.within);
      is = is ∙ ap (drop (2 + length u.body)) ends.is ∙ drop-drop _ _ octets ∙ ap (λ (n : ℕ). drop n octets) there;
    }

pub gives_kept : (octets a left : List ℕ) (u : TlvUnit) → EndsWith octets a → cut a ≡ in_front u left → left ≡ drop (2 + length u.body) a → GivesKept octets u.body left
gives_kept octets a left u ends h is =
    let b = front_body a left u h in
    let e = still_ends octets a left u ends h is in
    let len : length left ≡ length a - (2 + length u.body) = ap length is ∙ length-drop _ a in
    let there : length octets - length left - length u.body ≡ length octets - length a + 2 = omega (arith, len, b.1, ends.within) in
    let same : drop (length octets - length left - length u.body) octets ≡ drop 2 a =
    ap (λ (n : ℕ). drop n octets) there ∙ sym (ap (drop 2) ends.is ∙ drop-drop _ _ octets) in
    record {
      within = omega (arith, len, b.1, ends.within);
      held = ap (take (length u.body)) same ∙ b.0;
      behind = e.is;
    }

-- if the first TLV is kept, the kept TLVs are this TLV and the kept TLVs after it
pub kept_first : (seen after : List Bool) (octets left : List ℕ) (u : TlvUnit) → cut octets ≡ in_front u left → true ≡ is_kept_seen seen u → after ≡ seen_after seen u
    → kept_seen seen (cut octets).tlvs ≡ u ∷ kept_seen after (cut left).tlvs
kept_first seen after octets left u h k m = ap (λ (c : Cut). kept_seen seen c.tlvs) h ∙ step (cut left).tlvs
  where
    step : (us : List TlvUnit) → kept_seen seen (u ∷ us) ≡ u ∷ kept_seen after us
    step us = rw (sym k, m) refl

-- ---- a whole walk

-- if the octets end with `rest`, a TLV in `rest` is also a TLV in the octets
pub gives_within : (octets rest body others : List ℕ) → EndsWith octets rest → GivesKept rest body others → GivesKept octets body others
gives_within octets rest body others e g =
    let there : length octets - length rest + (length rest - length others - length body) ≡ length octets - length others - length body = omega (arith, e.within, g.within) in
    let behind : length octets - length rest + (length rest - length others) ≡ length octets - length others = omega (arith, e.within, g.within) in
    let held : drop (length octets - length others - length body) octets ≡ drop (length rest - length others - length body) rest =
    sym (ap (drop (length rest - length others - length body)) e.is ∙ drop-drop _ _ octets ∙ ap (λ (n : ℕ). drop n octets) there) in
    record {
      within = omega (arith, e.within, g.within);
      held = ap (take (length body)) held ∙ g.held;
      behind = g.behind ∙ ap (drop (length rest - length others)) e.is ∙ drop-drop _ _ octets ∙ ap (λ (n : ℕ). drop n octets) behind;
    }

-- from an offset other than 0, the TLVs are those of the octets from that offset on
pub from_place : (octets others : List ℕ) (next : ℕ) → 0 < next → others ≡ drop next octets → tlvs_from octets next ≡ (cut others).tlvs
from_place octets others next some is = rw (gt-neq next some) (ap (λ (os : List ℕ). (cut os).tlvs) (sym is))
  where
    gt-neq : (n : ℕ) → 0 < n → eqb n 0 ≡ false
    gt-neq n h = grind (arith, common_steps, ne_eqb)

-- a walk from the start finds all kept TLVs
pub begins_whole : (octets : List ℕ) (walk : LldpaKept) → AreOctets octets → IsExtent octets → walk.next ≡ 0 → walk.met ≡ none_seen → left_of octets walk ≡ kept_of octets
unfolding later_tlvs
begins_whole octets walk fits e n m =
    let later : drop 3 (cut octets).tlvs ≡ later_tlvs octets = ap (λ (c : Cut). drop 3 c.tlvs) (ap cut (sym e.whole) ∙ cut_extent octets fits) in
    ap (λ (met : List Bool). kept_seen met (tlvs_from octets walk.next)) m
    ∙ ap (λ (next : ℕ). kept_seen none_seen (tlvs_from octets next)) n
    ∙ ap (kept_seen none_seen) later ∙ kept_seen-none _ ∙ sym (kept_tlvs_of octets)
