-- Which line a one-line sink keeps.
use Rattle.std.proofs.Common.{◌≡◌, ℕ, zero, suc, ◌-◌, ◌≤◌, List, [], ◌∷◌, length, take, true, false, Bool, Option, Some, None, refl, ap, sym, subst, ◌∙◌, arith, length-append}
use Rattle.std.specs.Prelude.{slice_get, if◌then◌else◌}
use Rattle.std.proofs.Math.Seq.{take-append_seam}
use Rattle.lldp_engine.specs.Takes.{Takes}
use Rattle.lldp_text.specs.Text.{ended}
use Rattle.lldp_engine.specs.declared.show.one_line.OneLine.{OneLine}
use Rattle.lldp_engine.specs.Code.OneLineState.{KeepsOne, line_kept}

-- The kept line has at most 2,049 octets, its line feed included.
pub is_short : (a b : OneLine) (lines : List (List ℕ)) → Takes KeepsOne a b lines → length a.line ≤ 2049 → length b.line ≤ 2049
unfolding Takes
is_short a b [] h short = subst (λ (s : OneLine). length s.line ≤ 2049) h short
is_short a b (x ∷ xs) h short = is_short h.0 b xs h.2 (h.1.1 short)

-- The sink returns the wanted line, or None if that line was not written.
pub record Gives (sink : OneLine) (given : Option (List ℕ)) : Type 0 where
  pub none : sink.came ≡ false → given ≡ None
  pub line : (line : List ℕ) → sink.came ≡ true → sink.line ≡ ended line → given ≡ Some line

some_kept : (came : Bool) (kept line : List ℕ) → came ≡ true → kept ≡ ended line → (if came then Some (take (length kept - 1) kept) else None) ≡ Some line
some_kept came kept line e k =
    let n : length (ended line) - 1 ≡ length line = omega (arith, length-append line (10 ∷ [])) in
    rw (e, k) (ap (λ (xs : List ℕ). Some xs) (ap (λ (m : ℕ). take m (ended line)) n ∙ take-append_seam line (10 ∷ [])))

pub gives : (sink : OneLine) → Gives sink (line_kept sink)
gives sink = record { none = λ e. rw e refl; line = some_kept sink.came sink.line }

stays : (before : ℕ) (kept : List ℕ) (b : OneLine) (lines : List (List ℕ)) → Takes KeepsOne (record { before = before; came = true; line = kept }) b lines → b ≡ record { before = before; came = true; line = kept }
unfolding Takes
stays before kept b [] h = sym h
stays before kept b (x ∷ xs) h = stays before kept b xs (rw h.1.0 at h.2)

gives_kept : (before : ℕ) (line : List ℕ) (b : OneLine) (given : Option (List ℕ)) → b ≡ record { before = before; came = true; line = ended line } → Gives b given → given ≡ Some line
gives_kept before line b given e gives = gives.line line (ap (λ (s : OneLine). s.came) e) (ap (λ (s : OneLine). s.line) e)

pub wanted_line : (before : ℕ) (kept : List ℕ) (b : OneLine) (lines : List (List ℕ)) (given : Option (List ℕ)) → Takes KeepsOne (record { before = before; came = false; line = kept }) b lines → Gives b given → given ≡ slice_get lines before
unfolding Takes
wanted_line zero kept b [] given h gives = gives.none (ap (λ (s : OneLine). s.came) (sym h))
wanted_line (suc before) kept b [] given h gives = gives.none (ap (λ (s : OneLine). s.came) (sym h))
wanted_line zero kept b (x ∷ xs) given h gives = gives_kept 0 x b given (stays 0 (ended x) b xs (rw h.1.0 at h.2)) gives
wanted_line (suc before) kept b (x ∷ xs) given h gives = wanted_line before kept b xs given (rw h.1.0 at h.2) gives
