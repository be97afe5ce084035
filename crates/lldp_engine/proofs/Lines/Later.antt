-- The lines behind those that are skipped.
use Rattle.std.proofs.Common.{◌≡◌, ℕ, zero, suc, ◌-◌, ◌≤◌, List, [], ◌∷◌, drop, ap, sym, subst, ◌∙◌, arith}
use Rattle.std.proofs.lemmas.List.{drop-drop}
use Rattle.lldp_engine.specs.declared.show.skip_lines.SkipLines.{SkipLines}
use Rattle.lldp_engine.specs.Code.Skipping.{TakesAt, TakesLater}
use Rattle.lldp_engine.specs.Takes.{Takes}

later_lines : {S : Type 0} (t : S → S → List ℕ → Type 0) (n : ℕ) (a b : SkipLines S) (lines : List (List ℕ)) → a.before ≡ n → Takes (TakesLater t) a b lines → Takes t a.sink.now b.sink.now (drop n lines)
unfolding Takes
later_lines t zero a b [] e h = ap (λ (s : SkipLines _). s.sink.now) h
later_lines t (suc n) a b [] e h = ap (λ (s : SkipLines _). s.sink.now) h
later_lines t zero a b (x ∷ xs) e h =
    let at : TakesAt t 0 h.0.before a.sink.now h.0.sink.now x = rw e at h.1.at in
    (h.0.sink.now, at.1, later_lines t zero h.0 b xs at.0 h.2)
later_lines t (suc n) a b (x ∷ xs) e h =
    let at : TakesAt t (suc n) h.0.before a.sink.now h.0.sink.now x = rw e at h.1.at in
    subst (λ s. Takes t s b.sink.now (drop n xs)) at.1 (later_lines t n h.0 b xs at.0 h.2)

pub same_sink : {S : Type 0} (t : S → S → List ℕ → Type 0) (a b : SkipLines S) (lines : List (List ℕ)) → Takes (TakesLater t) a b lines → b.sink.ghost_name ≡ a.sink.ghost_name
unfolding Takes
same_sink t a b [] h = ap (λ (s : SkipLines _). s.sink.ghost_name) (sym h)
same_sink t a b (x ∷ xs) h = same_sink t h.0 b xs h.2 ∙ h.1.same

-- If a show goes on behind its first `before` lines, the sink takes the lines from line `from` on.
pub from_line : {S : Type 0} (t : S → S → List ℕ → Type 0) (from before : ℕ) (a b : SkipLines S) (lines : List (List ℕ)) → before ≤ from → a.before ≡ from - before → Takes (TakesLater t) a b (drop before lines) → Takes t a.sink.now b.sink.now (drop from lines)
from_line t from before a b lines low e h =
    let there : drop (from - before) (drop before lines) ≡ drop from lines = drop-drop (from - before) before lines ∙ ap (λ (k : ℕ). drop k lines) (omega (arith, low)) in
    subst (λ (ls : List (List ℕ)). Takes t a.sink.now b.sink.now ls) there (later_lines t (from - before) a b (drop before lines) e h)
