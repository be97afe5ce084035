-- The first slot of a queue has the fewest ticks left.
use Rattle.std.proofs.Common.{◌≡◌, ℕ, ◌≤◌, ◌||◌, true, nat_eq, List, [], ◌∷◌, refl, inl, inr, ap, ◌∙◌, sym, arith, Some}
use Rattle.std.specs.Prelude.{Option}
use Rattle.std.specs.List.{list_any}
use Rattle.std.proofs.lemmas.Bool.{cases_Bool, eq-eqb}
use Rattle.lldp_table.specs.Contents.{sooner, least_left}
use Rattle.lldp_table.specs.Code.Stored.{Stored}
use Rattle.lldp_table.specs.Code.Layout.{neighbors_at}
use Rattle.lldp_table.specs.Code.Queue.{Due, ticks_left, first_gap, holds, IsQueued}
use Rattle.lldp_table.proofs.Ageing.Steps.{at_first, behind}

pub sooner_assoc : (a b c : Option ℕ) → sooner (sooner a b) c ≡ sooner a (sooner b c)
sooner_assoc (Some a) (Some b) (Some c) = ap (λ (n : ℕ). Some n) (omega arith)
sooner_assoc _ _ _ = refl

module _ (slots : List Stored) (e : Due) (queue : List Due) where
  abbrev left : ℕ → ℕ
  left i = ticks_left (e ∷ queue) i

  abbrev least : List ℕ → Option ℕ
  least is = least_left (neighbors_at slots left is)

  not_sooner : (i : ℕ) → e.gap ≤ left i
  not_sooner i = elim (cases_Bool (nat_eq e.slot i)) [
    | inl t ↦ omega (arith, at_first e queue i t)
    | inr f ↦ omega (arith, behind e queue i f)
  ]

  first_or : (i : ℕ) → sooner (Some e.gap) (Some (left i)) ≡ Some e.gap
  first_or i = ap (λ (n : ℕ). Some n) (omega (arith, not_sooner i))

  none_sooner : (is : List ℕ) → sooner (Some e.gap) (least is) ≡ Some e.gap
  none_sooner [] = refl
  none_sooner (i ∷ is) = sym (sooner_assoc (Some e.gap) (Some (left i)) (least is)) ∙ ap (λ o. sooner o (least is)) (first_or i) ∙ none_sooner is

  among : (is : List ℕ) → list_any (nat_eq e.slot) is ≡ true → least is ≡ Some e.gap
  among [] h = cc
  among (i ∷ is) h = elim (cases_Bool (nat_eq e.slot i)) [
    | inl t ↦ ap (λ (n : ℕ). sooner (Some n) (least is)) (at_first e queue i t) ∙ none_sooner is
    | inr f ↦
        let there : list_any (nat_eq e.slot) is ≡ true = ap (λ b. b || list_any (nat_eq e.slot) is) (sym f) ∙ h in
        ap (sooner (Some (left i))) (among is there) ∙ ap (λ (n : ℕ). Some n) (omega (arith, not_sooner i))
  ]

pub first_soonest : (slots : List Stored) (queue : List Due) (used : List ℕ) → IsQueued queue used → first_gap queue ≡ least_left (neighbors_at slots (ticks_left queue) used)
first_soonest slots [] [] h = refl
first_soonest slots [] (i ∷ is) h = absurd (omega (arith, h.count))
first_soonest slots (e ∷ queue) used h =
    let here : holds e.slot (e ∷ queue) ≡ true = ap (λ b. b || holds e.slot queue) (eq-eqb e.slot e.slot refl) in
    sym (among slots e queue used (sym (h.same e.slot) ∙ here))
