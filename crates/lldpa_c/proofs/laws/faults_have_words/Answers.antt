use Rattle.std.proofs.Common.{◌≡◌, ℕ, ◌<◌, None, refl, arith}
use Rattle.std.proofs.lemmas.Bool.{ne_eqb}
use Rattle.lldpa_c.specs.Texts.{words_of}
use Rattle.lldpa_c.proofs.laws.faults_have_words.Goals as goal

no_others : (n : ℕ) → 105 < n → words_of n ≡ None
no_others n h = rw (ne_eqb n 1 (λ e. absurd (omega (arith, e, h))), ne_eqb n 2 (λ e. absurd (omega (arith, e, h))), ne_eqb n 3 (λ e. absurd (omega (arith, e, h))), ne_eqb n 4 (λ e. absurd (omega (arith, e, h))), ne_eqb n 5 (λ e. absurd (omega (arith, e, h))), ne_eqb n 6 (λ e. absurd (omega (arith, e, h))), ne_eqb n 7 (λ e. absurd (omega (arith, e, h))), ne_eqb n 8 (λ e. absurd (omega (arith, e, h))), ne_eqb n 11 (λ e. absurd (omega (arith, e, h))), ne_eqb n 12 (λ e. absurd (omega (arith, e, h))), ne_eqb n 13 (λ e. absurd (omega (arith, e, h))), ne_eqb n 21 (λ e. absurd (omega (arith, e, h))), ne_eqb n 22 (λ e. absurd (omega (arith, e, h))), ne_eqb n 23 (λ e. absurd (omega (arith, e, h))), ne_eqb n 24 (λ e. absurd (omega (arith, e, h))), ne_eqb n 25 (λ e. absurd (omega (arith, e, h))), ne_eqb n 26 (λ e. absurd (omega (arith, e, h))), ne_eqb n 31 (λ e. absurd (omega (arith, e, h))), ne_eqb n 32 (λ e. absurd (omega (arith, e, h))), ne_eqb n 33 (λ e. absurd (omega (arith, e, h))), ne_eqb n 34 (λ e. absurd (omega (arith, e, h))), ne_eqb n 35 (λ e. absurd (omega (arith, e, h))), ne_eqb n 36 (λ e. absurd (omega (arith, e, h))), ne_eqb n 37 (λ e. absurd (omega (arith, e, h))), ne_eqb n 38 (λ e. absurd (omega (arith, e, h))), ne_eqb n 100 (λ e. absurd (omega (arith, e, h))), ne_eqb n 101 (λ e. absurd (omega (arith, e, h))), ne_eqb n 102 (λ e. absurd (omega (arith, e, h))), ne_eqb n 103 (λ e. absurd (omega (arith, e, h))), ne_eqb n 104 (λ e. absurd (omega (arith, e, h))), ne_eqb n 105 (λ e. absurd (omega (arith, e, h)))) refl

pub returns : goal.returns
returns c = record { few = refl; others = no_others }
