-- A word names the first port whose name is that word.
use Rattle.std.proofs.Common.{◌≡◌, ◌≢◌, ℕ, zero, suc, ◌+◌, ◌<◌, Bool, true, false, List, [], ◌∷◌, Option, Some, refl, ap, ◌∙◌, arith}
use Rattle.std.specs.Prelude.{slice_get, if◌then◌else◌}
use Rattle.std.specs.Bool.{Decides}
use Rattle.std.specs.Str.{bytes_eq}
use Rattle.std.proofs.lemmas.Slice.Eq.{bytes_eq-Decides}
use Rattle.lldp_engine.specs.Place.{place_from, place_of}
use Rattle.lldp_engine.specs.Laws.Places.{IsFirstPlace}

pub same_inside : {X : Type 0} (x y : X) → Some x ≡ Some y → x ≡ y
same_inside x y h = cc

-- The number i is s plus the place at which the word first occurs in the list.
abbrev IsPlaceFrom : ℕ → List (List ℕ) → List ℕ → ℕ → Type 0
IsPlaceFrom s names word i = (k : ℕ) × (i ≡ s + k) × IsFirstPlace names word k

-- ## One more name at the front of the list

not_before : (name : List ℕ) (names : List (List ℕ)) (word : List ℕ) (k : ℕ) → name ≢ word → IsFirstPlace names word k → (j : ℕ) → j < suc k → slice_get (name ∷ names) j ≢ Some word
not_before name names word k other h zero lt = λ e. other (same_inside name word e)
not_before name names word k other h (suc j) lt = h.first j (omega arith)

one_before : (name : List ℕ) (names : List (List ℕ)) (word : List ℕ) (k : ℕ) → IsFirstPlace (name ∷ names) word (suc k) → IsFirstPlace names word k
one_before name names word k h = record { here = h.here; first = λ j lt. h.first (suc j) (omega arith) }

-- ## The search finds exactly the first place

found_by : (b : Bool) (s i : ℕ) (name : List ℕ) (names : List (List ℕ)) (word : List ℕ) (others : Option ℕ) → Decides b (name ≡ word) → (others ≡ Some i → IsPlaceFrom (s + 1) names word i)
    → (if b then Some s else others) ≡ Some i → IsPlaceFrom s (name ∷ names) word i
found_by true s i name names word others d rest e =
    let at : s ≡ i = same_inside s i e in
    (0, omega arith, record { here = ap (λ (x : List ℕ). Some x) (d.0 refl); first = λ j lt. absurd (omega arith) })
found_by false s i name names word others d rest e =
    let h = rest e in
    let other : name ≢ word = λ same. absurd (let wrong = d.1 same in cc) in
    (suc h.0, omega (arith, h.1), record { here = h.2.here; first = not_before name names word h.0 other h.2 })

found_from : (s i : ℕ) (names : List (List ℕ)) (word : List ℕ) → place_from s names word ≡ Some i → IsPlaceFrom s names word i
found_from s i [] word e = cc
found_from s i (name ∷ names) word e = found_by (bytes_eq name word) s i name names word (place_from (s + 1) names word) (bytes_eq-Decides name word) (found_from (s + 1) i names word) e

test_is : (b : Bool) (x y : Option ℕ) → b ≡ true → (if b then x else y) ≡ x
test_is true x y e = refl
test_is false x y e = cc

test_is_not : (b : Bool) (x y : Option ℕ) → (b ≡ true → ⊥) → (if b then x else y) ≡ y
test_is_not true x y e = absurd (e refl)
test_is_not false x y e = refl

stands_from : (s k : ℕ) (names : List (List ℕ)) (word : List ℕ) → IsFirstPlace names word k → place_from s names word ≡ Some (s + k)
stands_from s k [] word h = absurd (let none = h.here in cc)
stands_from s zero (name ∷ names) word h =
    let at : s ≡ s + 0 = omega arith in
    test_is (bytes_eq name word) (Some s) (place_from (s + 1) names word) ((bytes_eq-Decides name word).1 (same_inside name word h.here)) ∙ ap (λ (i : ℕ). Some i) at
stands_from s (suc k) (name ∷ names) word h =
    let at : (s + 1) + k ≡ s + suc k = omega arith in
    test_is_not (bytes_eq name word) (Some s) (place_from (s + 1) names word) (λ t. h.first 0 (omega arith) (ap (λ (x : List ℕ). Some x) ((bytes_eq-Decides name word).0 t)))
    ∙ stands_from (s + 1) k names word (one_before name names word k h) ∙ ap (λ (i : ℕ). Some i) at

pub place_is_first : (names : List (List ℕ)) (word : List ℕ) (i : ℕ) → place_of names word ≡ Some i → IsFirstPlace names word i
place_is_first names word i e =
    let h = found_from 0 i names word e in
    let at : h.0 ≡ i = omega (arith, h.1) in
    rw at at h.2

pub first_is_place : (names : List (List ℕ)) (word : List ℕ) (i : ℕ) → IsFirstPlace names word i → place_of names word ≡ Some i
first_is_place names word i h =
    let at : 0 + i ≡ i = omega arith in
    stands_from 0 i names word h ∙ ap (λ (i : ℕ). Some i) at
