-- The fault of `put` is that of the first check that fails.
use Rattle.std.proofs.Common.{◌≡◌, ◌≢◌, ℕ, Bool, true, false, cond, not, ◌&&◌, ◌||◌, ltb, eqb, List, [], ◌∷◌, length, Some, None, refl, inl, inr, arith}
use Rattle.std.specs.List.{AllByRecursion}
use Rattle.std.proofs.lemmas.Bool.{cases_Bool, or_parts, eqb-false, ne_eqb, le-leb, leb-true, ltb-false, le-ltb, lt-ltb}
use Rattle.std.proofs.lemmas.Grind.{common_steps}
use Rattle.lldp_pdu.specs.declared.fault.BuildFault.TheVariants.{Full, Kind, Body}
use Rattle.lldp_pdu.specs.Tlv.{TlvUnit}
use Rattle.lldp_pdu.specs.Range.{is_between}
use Rattle.lldp_pdu.specs.WellFormed.{is_well_formed}
use Rattle.lldp_pdu.specs.Kept.{is_single}
use Rattle.lldp_pdu.specs.Draft.{Draft, lldpdu_octets, with_tlv, was_put, put_fault}
use Rattle.lldp_pdu.specs.Laws.PutFaults.{MayFollow, HasBody, IsRefused}
use Rattle.lldp_pdu.proofs.Drafts.{put_length}

abbrev AreNew : ℕ → List TlvUnit → Type 0
AreNew kind us = AllByRecursion (λ (v : TlvUnit). v.kind ≢ kind) us

all_new : (kind : ℕ) (us : List TlvUnit) → was_put kind us ≡ false → AreNew kind us
all_new kind [] e = tt
all_new kind (u ∷ us) e = let p = or_parts (eqb u.kind kind) (was_put kind us) e in (eqb-false u.kind kind p.0, all_new kind us p.1)

none_put : (kind : ℕ) (us : List TlvUnit) → AreNew kind us → was_put kind us ≡ false
none_put kind [] h = refl
none_put kind (u ∷ us) h = rw (ne_eqb u.kind kind h.0) (none_put kind us h.1)

abbrev is_stopped : Draft → TlvUnit → Bool
is_stopped d u = not (is_between 4 u.kind 127) || eqb d.ttl 0 || (is_single u.kind && was_put u.kind d.tlvs)

abbrev is_bad : TlvUnit → Bool
is_bad u = ltb 511 (length u.body) || not (is_well_formed u)

fault_is : (d : Draft) (u : TlvUnit) (a b c : Bool) → is_stopped d u ≡ a → is_bad u ≡ b → ltb 1500 (length (lldpdu_octets (with_tlv d u))) ≡ c
    → put_fault d u ≡ cond a (Some Kind) (cond b (Some Body) (cond c (Some Full) None))
unfolding put_fault
fault_is d u a b c p q r = rw (p, q, r) refl

may_follow : (d : Draft) (u : TlvUnit) → is_stopped d u ≡ false → MayFollow d u
may_follow d u e = grind (arith, common_steps, leb-true, le-leb, eqb-false, all_new)

follows : (d : Draft) (u : TlvUnit) → MayFollow d u → is_stopped d u ≡ false
follows d u h = grind (arith, common_steps, leb-true, le-leb, ne_eqb, none_put)

has_body : (u : TlvUnit) → is_bad u ≡ false → HasBody u
has_body u e = grind (arith, common_steps, ltb-false)

fits_body : (u : TlvUnit) → HasBody u → is_bad u ≡ false
fits_body u h = grind (arith, common_steps, le-ltb)

pub is_refused : (d : Draft) (u : TlvUnit) → IsRefused d u
is_refused d u = record {
  kind = λ n. elim (cases_Bool (is_stopped d u)) [
    | inl e ↦ fault_is d u true _ _ e refl refl
    | inr e ↦ absurd (n (may_follow d u e))
  ];
  body = λ h n. elim (cases_Bool (is_bad u)) [
    | inl e ↦ fault_is d u false true _ (follows d u h) e refl
    | inr e ↦ absurd (n (has_body u e))
  ];
  full = λ h k long. fault_is d u false false true (follows d u h) (fits_body u k) (lt-ltb 1500 _ (omega (arith, long, put_length d u)));
}
