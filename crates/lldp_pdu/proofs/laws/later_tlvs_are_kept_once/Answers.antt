use Rattle.std.proofs.Common.{◌≡◌, ◌≢◌, ℕ, Bool, true, false, not, ◌&&◌, eqb, List, [], ◌∷◌, refl, sym, ◌∙◌, true≢false, arith}
use Rattle.std.specs.List.{AllByRecursion, list_any}
use Rattle.std.proofs.lemmas.Bool.{and_parts, eqb-true, or_parts, or_from, and_from, leb-true, le-leb, ltb-true, lt-ltb, eq-eqb}
use Rattle.lldp_pdu.specs.Tlv.{TlvUnit}
use Rattle.lldp_pdu.specs.WellFormed.{is_well_formed}
use Rattle.lldp_pdu.specs.Lldpdu.{is_end, ended_incomplete}
use Rattle.lldp_pdu.specs.Kept.{is_single, has_well_formed, is_kept}
use Rattle.lldp_pdu.specs.Laws.KeptOnce.{IsFirst}
use Rattle.lldp_pdu.proofs.Keeping.{kept_and_others}
use Rattle.lldp_pdu.proofs.Telling.{kept_tlvs_of}
use Rattle.lldp_pdu.proofs.Whole.{discarded_is}
use Rattle.lldp_pdu.proofs.laws.later_tlvs_are_kept_once.Goals as goal
use Rattle.std.proofs.lemmas.Grind.{common_steps}

abbrev IsMet : ℕ → TlvUnit → Type 0
IsMet kind e = (e.kind ≡ kind) × (is_well_formed e ≡ true)

abbrev meets : ℕ → TlvUnit → Bool
meets kind e = eqb e.kind kind && is_well_formed e

not_met : (kind : ℕ) (e : TlvUnit) → meets kind e ≡ false → ¬ (IsMet kind e)
not_met kind e no_test h = absurd (true≢false (sym (and_from (eqb e.kind kind) (is_well_formed e) (eq-eqb e.kind kind h.0) h.1) ∙ no_test))

unmet : (kind : ℕ) (e : TlvUnit) (b : Bool) → meets kind e ≡ b → ¬ (IsMet kind e) → b ≡ false
unmet kind e b h n = grind (arith, common_steps, and_parts, eqb-true)

none_met : (kind : ℕ) (earlier : List TlvUnit) → has_well_formed kind earlier ≡ false → AllByRecursion (λ (e : TlvUnit). ¬ (IsMet kind e)) earlier
none_met kind [] h = tt
none_met kind (e ∷ earlier) h =
    let p = or_parts (meets kind e) (has_well_formed kind earlier) h in
    (not_met kind e p.0, none_met kind earlier p.1)

none_found : (kind : ℕ) (earlier : List TlvUnit) → AllByRecursion (λ (e : TlvUnit). ¬ (IsMet kind e)) earlier → has_well_formed kind earlier ≡ false
none_found kind [] h = refl
none_found kind (e ∷ earlier) h = or_from (meets kind e) (has_well_formed kind earlier) (unmet kind e (meets kind e) refl h.0) (none_found kind earlier h.1)

-- `IsFirst` holds if the test for a kept TLV passes
is_first : (earlier : List TlvUnit) (u : TlvUnit) (w s m : Bool) → is_well_formed u ≡ w → is_single u.kind ≡ s → has_well_formed u.kind earlier ≡ m → (w && not (s && m)) ≡ true → IsFirst earlier u
is_first earlier u w s m e f g h = grind (arith, common_steps, none_met, true≢false, le-leb)

left_out : (earlier : List TlvUnit) (u : TlvUnit) (b : Bool) → is_kept earlier u ≡ b → ¬ (IsFirst earlier u) → b ≡ false
left_out earlier u true e n = absurd (n (is_first earlier u (is_well_formed u) (is_single u.kind) (has_well_formed u.kind earlier) refl refl refl e))
left_out earlier u false e n = refl

pub returns-clause-kept : goal.returns-clause-kept
returns-clause-kept c = grind (arith, common_steps, and_parts, none_found, leb-true, left_out)

-- ## Counts

not_end : (n : ℕ) (b : Bool) → eqb n 0 ≡ b → n ≢ 0 → b ≡ false
not_end n b e h = grind (arith, common_steps, eqb-true)

is_no_end : (n : ℕ) → eqb n 0 ≡ false → n ≢ 0
is_no_end n e h = absurd (true≢false (sym (eq-eqb n 0 h) ∙ e))

none_ends : (us : List TlvUnit) → AllByRecursion (λ (u : TlvUnit). u.kind ≢ 0) us → list_any is_end us ≡ false
none_ends [] h = refl
none_ends (u ∷ us) h = or_from (eqb u.kind 0) (list_any is_end us) (not_end u.kind (eqb u.kind 0) refl h.0) (none_ends us h.1)

no_end_among : (us : List TlvUnit) → list_any is_end us ≡ false → AllByRecursion (λ (u : TlvUnit). u.kind ≢ 0) us
no_end_among [] h = tt
no_end_among (u ∷ us) h =
    let p = or_parts (eqb u.kind 0) (list_any is_end us) h in
    (is_no_end u.kind p.0, no_end_among us p.1)

pub returns-clause-counted : goal.returns-clause-counted
unfolding ended_incomplete
returns-clause-counted c = grind (arith, common_steps, kept_tlvs_of, kept_and_others, discarded_is, and_from, none_ends, lt-ltb, no_end_among, ltb-true, true≢false)
