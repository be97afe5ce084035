-- The loop of `optional_tlvs` over the TLVs after the mandatory ones.
use Rattle.std.proofs.Common.{◌≡◌, ℕ, ◌+◌, ◌<◌, ◌≤◌, Bool, true, false, cond, ltb, List, [], ◌∷◌, ◌++◌, length, take, get_or, refl, sym, ap, ◌∙◌, append_assoc, add-zero, arith}
use Rattle.std.specs.List.{list_any}
use Rattle.std.proofs.lemmas.List.{length-append, take_at}
use Rattle.std.proofs.lemmas.Grind.{flat_map-append, common_steps}
use Rattle.lldp_pdu.specs.Tlv.{TlvUnit, spelling, spellings, AreOctets}
use Rattle.lldp_pdu.specs.Cut.{Cut, cut}
use Rattle.lldp_pdu.specs.Lldpdu.{is_end, before_end, ended_incomplete}
use Rattle.lldp_pdu.specs.Fault.{is_mandatory}
use Rattle.lldp_pdu.specs.Kept.{count_unrecognized}
use Rattle.lldp_pdu.specs.Code.Seen.{none_seen, seen_after, kept_seen}
use Rattle.lldp_pdu.specs.Code.Survey.{count_lost, IsSurveyOf}
use Rattle.lldp_pdu.proofs.Cuts.{cut_is_cut, AreOctets-from_index}
use Rattle.lldp_pdu.proofs.Opening.{with_front}

abbrev pub extent_left : List ℕ → List TlvUnit
extent_left octets = before_end (cut octets).tlvs

-- the loop invariant: the counts so far and the counts still to come add up to the totals
pub record Surveys (after left : List ℕ) (seen : List Bool) (len lost unknown : ℕ) : Type 0 where
  pub length_is : len + length (spellings (extent_left left)) ≡ length (spellings (extent_left after))
  pub lost_are : lost + count_lost seen (extent_left left) ≡ count_lost none_seen (extent_left after)
  pub unknown_are : unknown + count_unrecognized (kept_seen seen (extent_left left)) ≡ count_unrecognized (kept_seen none_seen (extent_left after))
  pub repeats : list_any is_mandatory (extent_left left) ≡ list_any is_mandatory (extent_left after)
  pub ends : list_any is_end (cut left).tlvs ≡ list_any is_end (cut after).tlvs
  pub rest : (cut left).rest ≡ (cut after).rest

pub starts : (after left : List ℕ) (seen : List Bool) → left ≡ after → seen ≡ none_seen → Surveys after left seen 0 0 0
starts after left seen e f = rw (e, f) (record { length_is = omega arith; lost_are = omega arith; unknown_are = omega arith; repeats = refl; ends = refl; rest = refl })

-- ---- a TLV that is neither an End Of LLDPDU nor mandatory

extent_front : (left next : List ℕ) (u : TlvUnit) → cut left ≡ with_front u next → is_end u ≡ false → extent_left left ≡ u ∷ extent_left next
extent_front left next u e k = ap (λ (c : Cut). before_end c.tlvs) e ∙ rw k refl

-- ---- bounds of the counters

all_of_front : (us : List TlvUnit) → (more : List TlvUnit) × (us ≡ before_end us ++ more)
all_of_front [] = ([], refl)
all_of_front (u ∷ us) =
    let below = all_of_front us in
    go (is_end u) below.0 below.1
  where
    go : (b : Bool) (more : List TlvUnit) → us ≡ before_end us ++ more → (more : List TlvUnit) × (u ∷ us ≡ cond b [] (u ∷ before_end us) ++ more)
    go true more e = (u ∷ us, refl)
    go false more e = (more, ap (λ (vs : List TlvUnit). u ∷ vs) e)

-- the octets begin with their extent
pub extent_is_front : (octets : List ℕ) → AreOctets octets → (more : List ℕ) × (octets ≡ spellings (extent_left octets) ++ more) × (length (cut octets).rest ≤ length more)
extent_is_front octets fits =
    let c = cut octets in
    let is = cut_is_cut octets fits in
    let f = all_of_front c.tlvs in
    let joined : octets ≡ (spellings (before_end c.tlvs) ++ spellings f.0) ++ c.rest = is.joined ∙ ap (λ (us : List TlvUnit). spellings us ++ c.rest) f.1 ∙ ap (λ (xs : List ℕ). xs ++ c.rest) (flat_map-append spelling (before_end c.tlvs) f.0) in
    (spellings f.0 ++ c.rest, joined ∙ append_assoc (spellings (before_end c.tlvs)) (spellings f.0) c.rest, omega (arith, length-append (spellings f.0) c.rest))

lost_few : (seen : List Bool) (us : List TlvUnit) → count_lost seen us ≤ length (spellings us)
lost_few seen [] = omega arith
lost_few seen (u ∷ us) = grind (arith, common_steps, length-append, lost_few (seen_after seen u) us)

unknown_few : (seen : List Bool) (us : List TlvUnit) → count_unrecognized (kept_seen seen us) ≤ length (spellings us)
unknown_few seen [] = omega arith
unknown_few seen (u ∷ us) = grind (arith, common_steps, length-append, unknown_few (seen_after seen u) us)

-- upper bounds of the counters
pub record Bounds (after left : List ℕ) (n lose know : ℕ) : Type 0 where
  pub len : n + length (spellings (extent_left left)) ≤ length after
  pub lost : lose ≤ length after
  pub unknown : know ≤ length after

pub bounds : (after left : List ℕ) (seen : List Bool) (len lost unknown : ℕ) → ((i : ℕ) → get_or after i 0 < 256) → Surveys after left seen len lost unknown → Bounds after left len lost unknown
bounds after left seen len lost unknown fits s =
    let f = extent_is_front after (AreOctets-from_index after fits) in
    let whole : length (spellings (extent_left after)) ≤ length after = omega (arith, ap length f.1, length-append (spellings (extent_left after)) f.0) in
    record {
      len = omega (arith, s.length_is, whole);
      lost = omega (arith, s.lost_are, whole, lost_few none_seen (extent_left after));
      unknown = omega (arith, s.unknown_are, whole, unknown_few none_seen (extent_left after));
    }

pub one_more : (left next : List ℕ) (u : TlvUnit) → cut left ≡ with_front u next → is_end u ≡ false → 2 + length u.body ≤ length (spellings (extent_left left))
one_more left next u e k = rw (extent_front left next u e k) (omega (arith, length-append (spelling u) (spellings (extent_left next))))

-- ---- the end of the loop

-- `IsSurveyOf` holds once no TLV of the extent is left to read
is_survey : (after left : List ℕ) (seen : List Bool) (len lost unknown more : ℕ) → ((i : ℕ) → get_or after i 0 < 256) → Surveys after left seen len lost unknown → extent_left left ≡ [] → more ≡ lost + cond (ended_incomplete after) 1 0
    → IsSurveyOf after (take len after) more unknown
is_survey after left seen len lost unknown more fits s e m =
    let f = extent_is_front after (AreOctets-from_index after fits) in
    let all : len ≡ length (spellings (extent_left after)) = sym (add-zero len) ∙ ap (λ (us : List TlvUnit). len + length (spellings us)) (sym e) ∙ s.length_is in
    let losts : lost ≡ count_lost none_seen (extent_left after) = sym (add-zero lost) ∙ ap (λ (us : List TlvUnit). lost + count_lost seen us) (sym e) ∙ s.lost_are in
    let unknowns : unknown ≡ count_unrecognized (kept_seen none_seen (extent_left after)) = sym (add-zero unknown) ∙ ap (λ (us : List TlvUnit). unknown + count_unrecognized (kept_seen seen us)) (sym e) ∙ s.unknown_are in
    record {
      octets = ap (take len) f.1 ∙ take_at (spellings (extent_left after)) f.0 len (sym all);
      discarded = m ∙ ap (λ (n : ℕ). n + cond (ended_incomplete after) 1 0) losts;
      unrecognized = unknowns;
    }

-- `IsSurveyOf` holds if the loop ends at an End Of LLDPDU
pub survey_at_end : (after left next : List ℕ) (seen : List Bool) (len lost unknown : ℕ) (u : TlvUnit) → ((i : ℕ) → get_or after i 0 < 256) → Surveys after left seen len lost unknown → cut left ≡ with_front u next → is_end u ≡ true
    → IsSurveyOf after (take len after) lost unknown
unfolding ended_incomplete
survey_at_end after left next seen len lost unknown u fits s e k =
    let none : extent_left left ≡ [] = ap (λ (c : Cut). before_end c.tlvs) e ∙ rw k refl in
    let ended : list_any is_end (cut after).tlvs ≡ true = sym s.ends ∙ ap (λ (c : Cut). list_any is_end c.tlvs) e ∙ rw k refl in
    is_survey after left seen len lost unknown lost fits s none (rw ended (omega arith))

-- `IsSurveyOf` holds if the loop ends because no complete TLV is left
pub survey_at_rest : (after left : List ℕ) (seen : List Bool) (len lost unknown more : ℕ) → ((i : ℕ) → get_or after i 0 < 256) → Surveys after left seen len lost unknown → cut left ≡ record { tlvs = []; rest = left } → more ≡ lost + cond (ltb 0 (length left)) 1 0
    → IsSurveyOf after (take len after) more unknown
unfolding ended_incomplete
survey_at_rest after left seen len lost unknown more fits s e m =
    let none : extent_left left ≡ [] = ap (λ (c : Cut). before_end c.tlvs) e in
    let ended : list_any is_end (cut after).tlvs ≡ false = sym s.ends ∙ ap (λ (c : Cut). list_any is_end c.tlvs) e in
    let rest : (cut after).rest ≡ left = sym s.rest ∙ ap (λ (c : Cut). c.rest) e in
    is_survey after left seen len lost unknown more fits s none (m ∙ rw (ended, rest) refl)
