-- Positions in lists: the element that a computed test finds, and the elements around it.
use Rattle.std.specs.Prelude.{◌≡◌, ℕ, ◌+◌, ◌↔◌, Bool, true, false, cond, not, ◌&&◌, ◌||◌, IsTrue, List, [], ◌∷◌, ◌++◌}
use Rattle.std.specs.List.{list_any}
use Rattle.std.proofs.Common.{refl, ap, ap₂, sym, ◌∙◌, arith}
use Rattle.std.proofs.lemmas.Bool.{or_parts}
use Rattle.lldp_transmit.specs.Fronts.{Position, count, since, from_last, up_to_last}
use Rattle.lldp_transmit.proofs.Windows.{one_if}

-- positions in a list with one more element: of its newest element, or of an older one
abbrev pub newest : {X : Type 0} (x : X) (xs : List X) → Position (x ∷ xs)
newest x xs = record { after = []; there = x; before = xs; is = refl }

abbrev pub older : {X : Type 0} {xs : List X} (x : X) → Position xs → Position (x ∷ xs)
older x p = record { after = x ∷ p.after; there = p.there; before = p.before; is = ap (λ l. x ∷ l) p.is }

pub count-append : {X : Type 0} (p : X → Bool) (xs ys : List X) → count p (xs ++ ys) ≡ count p xs + count p ys
count-append p [] ys = omega arith
count-append p (x ∷ xs) ys = omega (arith, count-append p xs ys)

pub count_never : {X : Type 0} (xs : List X) → count (λ _. false) xs ≡ 0
count_never [] = refl
count_never (x ∷ xs) = omega (arith, count_never xs)

-- ---- an element that is picked and lasts

-- some picked element has no ending element after it, and no blocking element at it or after it
abbrev pub Lasts : {X : Type 0} → (picks ends blocks : X → Bool) → List X → Type 0
Lasts picks ends blocks xs =
    (p : Position xs) × IsTrue (picks p.there) × (count ends p.after ≡ 0) × (count blocks (p.there ∷ p.after) ≡ 0)

picks_first : (b g x : Bool) → one_if b + 0 ≡ 0 → g ≡ true → (not b && (g || x)) ≡ true
picks_first b g x e p = grind (arith)

picks_later : (b g c w : Bool) (n f k : ℕ) → one_if c + n ≡ 0 → k + (one_if b + f) ≡ 0 → w ≡ true → (not b && (g || (not c && w))) ≡ true
picks_later b g c w n f k e d p = grind (arith)

-- A test with the equations `empty` and `one_more` holds exactly if some element lasts.
module _ {X : Type 0} (f : List X → Bool) (picks ends blocks : X → Bool) (empty : f [] ≡ false) (one_more : (x : X) (xs : List X) → f (x ∷ xs) ≡ (not (blocks x) && (picks x || (not (ends x) && f xs)))) where
  found : (xs : List X) → IsTrue (f xs) → Lasts picks ends blocks xs
  found [] h = cc empty
  found (x ∷ xs) h = go (blocks x) refl (picks x) refl (ends x) refl (sym (one_more x xs) ∙ h) (found xs)
    where
      go : (b : Bool) → blocks x ≡ b → (g : Bool) → picks x ≡ g → (c : Bool) → ends x ≡ c → (not b && (g || (not c && f xs))) ≡ true → (IsTrue (f xs) → Lasts picks ends blocks xs) → Lasts picks ends blocks (x ∷ xs)
      go true p g q c r e i = cc e
      go false p true q c r e i = (newest x xs, q, refl, ap (λ b. one_if b + 0) p)
      go false p false q true r e i = cc e
      go false p false q false r e i =
          let w = i e in (
            older x w.0,
            w.1,
            ap₂ (λ b n. one_if b + n) r w.2,
            ap (λ b. one_if (blocks w.0.there) + (one_if b + count blocks w.0.after)) p ∙ omega (arith, w.3),
          )

  lasting : (after : List X) (x : X) (before : List X) → IsTrue (picks x) → count ends after ≡ 0 → count blocks (x ∷ after) ≡ 0 → IsTrue (f (after ++ x ∷ before))
  lasting [] x before g c b = one_more x before ∙ picks_first (blocks x) (picks x) _ b g
  lasting (y ∷ after) x before g c b =
      one_more y (after ++ x ∷ before)
      ∙ picks_later (blocks y) (picks y) (ends y) _ (count ends after) (count blocks after) (one_if (blocks x)) c b (lasting after x before g (omega arith) (omega arith))

  pub lasts_reads : (xs : List X) → IsTrue (f xs) ↔ Lasts picks ends blocks xs
  lasts_reads xs = (found xs, λ w. ap f w.0.is ∙ lasting w.0.after w.0.there w.0.before w.1 w.2 w.3)

-- ---- the last element that passes

pub or_again : (a b : Bool) → (a || b) ≡ (a || (not a && b))
or_again true b = refl
or_again false b = refl

module _ {X : Type 0} (p : X → Bool) where
  pub find_last : (xs : List X) → list_any p xs ≡ true → Lasts p p (λ _. false) xs
  find_last xs = (lasts_reads (list_any p) p p (λ _. false) refl (λ x xs. or_again (p x) (list_any p xs)) xs).0

  -- if no element passes, the count is 0 and the list up to the last that passes is empty
  pub none_counted : (xs : List X) → list_any p xs ≡ false → count p xs ≡ 0
  none_counted [] e = refl
  none_counted (x ∷ xs) e = let parts = or_parts _ _ e in ap₂ (λ b n. one_if b + n) parts.0 (none_counted xs parts.1)

  pub up_to_none : (xs : List X) → list_any p xs ≡ false → up_to_last p xs ≡ []
  up_to_none [] e = refl
  up_to_none (x ∷ xs) e = let parts = or_parts _ _ e in ap (λ b. cond b (x ∷ xs) (up_to_last p xs)) parts.0 ∙ up_to_none xs parts.1

  -- if no element passes, the newest does not
  first_fails : (b : Bool) (n : ℕ) → one_if b + n ≡ 0 → b ≡ false
  first_fails true n e = absurd (omega arith)
  first_fails false n e = refl

  round : (after : List X) (x : X) (before : List X) → p x ≡ true → count p after ≡ 0 → (since p (after ++ x ∷ before) ≡ after) × (up_to_last p (after ++ x ∷ before) ≡ x ∷ before) × (from_last p (after ++ x ∷ before) ≡ after ++ x ∷ [])
  round [] x before q e = rw q (refl, refl, refl)
  round (y ∷ after) x before q e =
      let rest = round after x before q (omega arith) in
      rw (first_fails (p y) (count p after) e) (ap (λ l. y ∷ l) rest.0, rest.1, ap (λ l. y ∷ l) rest.2)

  -- `since`, `up_to_last` and `from_last`, from the position of the last element that passes
  pub at_last : {xs : List X} (w : Position xs) → p w.there ≡ true → count p w.after ≡ 0 → (since p xs ≡ w.after) × (up_to_last p xs ≡ w.there ∷ w.before) × (from_last p xs ≡ w.after ++ w.there ∷ [])
  at_last w q e =
      let at = round w.after w.there w.before q e in
      (ap (since p) w.is ∙ at.0, ap (up_to_last p) w.is ∙ at.1, ap (from_last p) w.is ∙ at.2)
