-- Places in a list of neighbors, and in an order of slot indices.
use Rattle.std.proofs.Common.{◌≡◌, ℕ, zero, suc, ◌+◌, ◌<◌, ◌≤◌, Bool, true, false, not, cond, nat_eq, List, [], ◌∷◌, ◌++◌, length, take, drop, set, get_or, Some, refl, ap, ◌∙◌, sym, arith, map, length-append}
use Rattle.std.specs.List.{list_any, filter, AllByRecursion, IsDistinct, remove, slice_get}
use Rattle.std.proofs.lemmas.Bool.{or_parts, or_from, or_left, or_right, ne_eqb, eq-eqb}
use Rattle.std.proofs.lemmas.Cmp.{nat_eq_equiv}
use Rattle.std.proofs.lemmas.List.{get_or_default, take-map, drop-map, take-append-le, map-append}
use Rattle.std.proofs.lemmas.Option.{slice_get_past}
use Rattle.std.proofs.lemmas.List.Elements.{All-from_recursion, recursion_from_All, All-get_or, All-take}
use Rattle.std.proofs.lemmas.List.Sorted.{All-permutation, length_permutation, IsPermutation-trans, IsPermutation-remove, IsPermutation-append_comm}
use Rattle.std.proofs.lemmas.Map.Keys.{IsDistinct-head, IsDistinct-tail, IsDistinct-push, IsDistinct-IsPermutation}
use Rattle.std.specs.List.Sorted.{IsPermutation}
use Rattle.lldp_pdu.specs.Msap.{MsapId}
use Rattle.lldp_table.specs.Msap.{same_msap}
use Rattle.lldp_table.specs.Events.{Neighbor}
use Rattle.lldp_table.specs.Contents.{is_named, names_of}
use Rattle.lldp_table.specs.Code.Steps.{fresh, refreshed}
use Rattle.lldp_table.specs.Code.Layout.{IsOrder}
use Rattle.lldp_table.proofs.Msap.{same_msap-true, same_msap-refl, same_msap-sym}
use Rattle.std.proofs.lemmas.Grind.{common_steps}

-- ## Properties of every element

pub at_place : {X : Type 0} (P : X → Type 0) (xs : List X) (k : ℕ) (d : X) → k < length xs → AllByRecursion P xs → P (get_or xs k d)
at_place P xs k d h a = All-get_or P xs k d h (All-from_recursion P xs a)

pub all-weaker : {X : Type 0} (P Q : X → Type 0) → ((x : X) → P x → Q x) → (is : List X) → AllByRecursion P is → AllByRecursion Q is
all-weaker P Q h [] a = tt
all-weaker P Q h (i ∷ is) a = (h i a.0, all-weaker P Q h is a.1)

pub all-both : {X : Type 0} (P Q R : X → Type 0) → ((x : X) → P x → Q x → R x) → (is : List X) → AllByRecursion P is → AllByRecursion Q is → AllByRecursion R is
all-both P Q R h [] p q = tt
all-both P Q R h (i ∷ is) p q = (h i p.0 q.0, all-both P Q R h is p.1 q.1)

pub all-take : (P : ℕ → Type 0) (n : ℕ) (is : List ℕ) → AllByRecursion P is → AllByRecursion P (take n is)
all-take P n is a = recursion_from_All P (take n is) (All-take P n is (All-from_recursion P is a))

pub all-push : {X : Type 0} (P : X → Type 0) (is : List X) (i : X) → AllByRecursion P is → P i → AllByRecursion P (is ++ i ∷ [])
all-push P [] i a p = (p, tt)
all-push P (j ∷ is) i a p = (a.0, all-push P is i a.1 p)

-- if no element passes the test, each element fails it
pub unheld : {X : Type 0} (test : X → Bool) (xs : List X) → list_any test xs ≡ false → AllByRecursion (λ x. test x ≡ false) xs
unheld test [] h = tt
unheld test (x ∷ xs) h = let p = or_parts (test x) (list_any test xs) h in (p.0, unheld test xs p.1)

-- ## Neighbors by MSAP identifier

-- if all MSAP identifiers differ, only one neighbor has the identifier `name`
module _ (name : MsapId) where
  -- the neighbors before the one with this MSAP identifier have different identifiers
  other_before : (x : Neighbor) (xs : List Neighbor) (k : ℕ) (d : Neighbor) → k < length xs → AllByRecursion (λ n. same_msap x.msap n ≡ false) (names_of xs) → is_named name (get_or xs k d) ≡ true → is_named name x ≡ false
  other_before x (y ∷ xs) zero d h a e = same_msap-sym name x.msap ∙ ap (same_msap x.msap) (same_msap-true name y.msap e) ∙ a.0
  other_before x (y ∷ xs) (suc k) d h a e = other_before x xs k d (omega arith) a.1 e
  other_before x [] k d h a e = absurd (omega arith)

  -- the neighbors after the one with this MSAP identifier have different identifiers
  others_behind : (x : Neighbor) (xs : List Neighbor) → AllByRecursion (λ n. same_msap x.msap n ≡ false) (names_of xs) → is_named name x ≡ true → AllByRecursion (λ y. is_named name y ≡ false) xs
  others_behind x [] a e = tt
  others_behind x (y ∷ xs) a e = (ap (λ n. same_msap n y.msap) (same_msap-true name x.msap e) ∙ a.0, others_behind x xs a.1 e)

  filter-unnamed : (xs : List Neighbor) → AllByRecursion (λ y. is_named name y ≡ false) xs → filter (λ x. not (is_named name x)) xs ≡ xs
  filter-unnamed [] a = refl
  filter-unnamed (x ∷ xs) a = ap (λ b. cond (not b) (x ∷ filter (λ x. not (is_named name x)) xs) (filter (λ x. not (is_named name x)) xs)) a.0 ∙ ap (λ ys. x ∷ ys) (filter-unnamed xs a.1)

  refreshed-unnamed : (ttl : ℕ) (octets : List ℕ) (xs : List Neighbor) → AllByRecursion (λ y. is_named name y ≡ false) xs → map (refreshed name ttl octets) xs ≡ xs
  refreshed-unnamed ttl octets [] a = refl
  refreshed-unnamed ttl octets (x ∷ xs) a = ap (λ b. cond b (fresh name ttl octets) x ∷ map (refreshed name ttl octets) xs) a.0 ∙ ap (λ ys. x ∷ ys) (refreshed-unnamed ttl octets xs a.1)

  -- if an MSAP identifier is at some place of the list, a neighbor has it
  pub held_there : (xs : List Neighbor) (at : ℕ) → slice_get (names_of xs) at ≡ Some name → list_any (is_named name) xs ≡ true
  held_there (x ∷ xs) zero e = let same : x.msap ≡ name = cc e in or_left (is_named name x) (list_any (is_named name) xs) (ap (same_msap name) same ∙ same_msap-refl name)
  held_there (x ∷ xs) (suc at) e = or_right (is_named name x) (list_any (is_named name) xs) (held_there xs at e)
  held_there [] at e = cc (e, slice_get_past {X = MsapId} [] at (omega arith))

  -- forgetting an MSAP identifier that is not held changes nothing
  pub forgets_none : (xs : List Neighbor) → list_any (is_named name) xs ≡ false → filter (λ x. not (is_named name x)) xs ≡ xs
  forgets_none xs h = filter-unnamed xs (unheld (is_named name) xs h)

  -- forgetting an MSAP identifier removes its neighbor
  pub forgets_place : (xs : List Neighbor) (k : ℕ) (d : Neighbor) → k < length xs → is_named name (get_or xs k d) ≡ true → IsDistinct same_msap (names_of xs) → filter (λ x. not (is_named name x)) xs ≡ remove xs k
  forgets_place [] k d h e u = absurd (omega arith)
  forgets_place (x ∷ xs) zero d h e u =
      ap (λ b. cond (not b) (x ∷ filter (λ x. not (is_named name x)) xs) (filter (λ x. not (is_named name x)) xs)) e
      ∙ filter-unnamed xs (others_behind x xs (IsDistinct-head same_msap x.msap (names_of xs) u) e)
  forgets_place (x ∷ xs) (suc k) d h e u =
      ap (λ b. cond (not b) (x ∷ filter (λ x. not (is_named name x)) xs) (filter (λ x. not (is_named name x)) xs)) (other_before x xs k d (omega arith) (IsDistinct-head same_msap x.msap (names_of xs) u) e)
      ∙ ap (λ ys. x ∷ ys) (forgets_place xs k d (omega arith) e (IsDistinct-tail same_msap x.msap (names_of xs) u))

  -- refreshing an MSAP identifier replaces its neighbor and no other
  pub refreshes_place : (ttl : ℕ) (octets : List ℕ) (xs : List Neighbor) (k : ℕ) (d : Neighbor) → k < length xs → is_named name (get_or xs k d) ≡ true → IsDistinct same_msap (names_of xs) → map (refreshed name ttl octets) xs ≡ set xs k (fresh name ttl octets)
  refreshes_place ttl octets [] k d h e u = absurd (omega arith)
  refreshes_place ttl octets (x ∷ xs) zero d h e u =
      ap (λ b. cond b (fresh name ttl octets) x ∷ map (refreshed name ttl octets) xs) e
      ∙ ap (λ ys. fresh name ttl octets ∷ ys) (refreshed-unnamed ttl octets xs (others_behind x xs (IsDistinct-head same_msap x.msap (names_of xs) u) e))
  refreshes_place ttl octets (x ∷ xs) (suc k) d h e u =
      ap (λ b. cond b (fresh name ttl octets) x ∷ map (refreshed name ttl octets) xs) (other_before x xs k d (omega arith) (IsDistinct-head same_msap x.msap (names_of xs) u) e)
      ∙ ap (λ ys. x ∷ ys) (refreshes_place ttl octets xs k d (omega arith) e (IsDistinct-tail same_msap x.msap (names_of xs) u))

-- ## Places in an order

pub nat_eq_sym : (i j : ℕ) → nat_eq i j ≡ nat_eq j i
nat_eq_sym i j = nat_eq_equiv.symm i j

module _ (f g : ℕ → Neighbor) where
  pub map-agree : (is : List ℕ) → AllByRecursion (λ i. g i ≡ f i) is → map g is ≡ map f is
  map-agree [] a = refl
  map-agree (i ∷ is) a = ap (λ x. x ∷ map g is) a.0 ∙ ap (λ xs. f i ∷ xs) (map-agree is a.1)

  -- if g and f differ only for the index at place k, the mapped lists differ only at that place
  pub map-at_place : (s : ℕ) (is : List ℕ) → AllByRecursion (λ i. nat_eq s i ≡ false → g i ≡ f i) is → (k : ℕ) → k < length is → get_or is k 0 ≡ s → IsDistinct nat_eq is → map g is ≡ set (map f is) k (g s)
  map-at_place s [] same k h e u = absurd (omega arith)
  map-at_place s (i ∷ is) same zero h e u =
      ap (λ j. g j ∷ map g is) e
      ∙ ap (λ xs. g s ∷ xs) (map-agree is (all-both (λ j. nat_eq i j ≡ false) (λ j. nat_eq s j ≡ false → g j ≡ f j) (λ j. g j ≡ f j) (λ j d q. q (ap (λ n. nat_eq n j) (sym e) ∙ d)) is (IsDistinct-head nat_eq i is u) same.1))
  map-at_place s (i ∷ is) same (suc k) h e u =
      ap (λ x. x ∷ map g is) (same.0 (nat_eq_sym s i ∙ ap (nat_eq i) (sym e) ∙ at_place (λ j. nat_eq i j ≡ false) is k 0 (omega arith) (IsDistinct-head nat_eq i is u)))
      ∙ ap (λ xs. f i ∷ xs) (map-at_place s is same.1 k (omega arith) e (IsDistinct-tail nat_eq i is u))

-- the index at place k is not among those before it
pub not_before : (is : List ℕ) (k : ℕ) → k < length is → IsDistinct nat_eq is → AllByRecursion (λ i. nat_eq (get_or is k 0) i ≡ false) (take k is)
not_before [] k h u = absurd (omega arith)
not_before (i ∷ is) zero h u = tt
not_before (i ∷ is) (suc k) h u = (nat_eq_sym (get_or is k 0) i ∙ at_place (λ j. nat_eq i j ≡ false) is k 0 (omega arith) (IsDistinct-head nat_eq i is u), not_before is k (omega arith) (IsDistinct-tail nat_eq i is u))

-- the index at place k is not among those after it
pub not_behind : (is : List ℕ) (k : ℕ) → k < length is → IsDistinct nat_eq is → AllByRecursion (λ i. nat_eq (get_or is k 0) i ≡ false) (drop (suc k) is)
not_behind [] k h u = absurd (omega arith)
not_behind (i ∷ is) zero h u = IsDistinct-head nat_eq i is u
not_behind (i ∷ is) (suc k) h u = not_behind is k (omega arith) (IsDistinct-tail nat_eq i is u)

pub map-remove : {X Y : Type 0} (f : X → Y) (xs : List X) (k : ℕ) → map f (remove xs k) ≡ remove (map f xs) k
map-remove f xs k = map-append f (take k xs) (drop (suc k) xs) ∙ ap (λ ys. ys ++ map f (drop (suc k) xs)) (sym (take-map f k xs)) ∙ ap (λ ys. take k (map f xs) ++ ys) (sym (drop-map f (suc k) xs))

-- the first u places of a list after the index at place k was removed and x was appended
pub take-moved : (is : List ℕ) (x k u : ℕ) → k < suc u → suc u ≤ length is → take u (remove is k ++ x ∷ []) ≡ remove (take (suc u) is) k
take-moved [] x k u h l = absurd (omega arith)
take-moved (i ∷ is) x zero u h l = take-append-le u is (x ∷ []) (omega arith)
take-moved (i ∷ is) x (suc k) (suc u) h l = ap (λ js. i ∷ js) (take-moved is x k u (omega arith) (omega arith))
take-moved (i ∷ is) x (suc k) zero h l = absurd (omega arith)

pub distinct-take : (n : ℕ) (is : List ℕ) → IsDistinct nat_eq is → IsDistinct nat_eq (take n is)
unfolding IsDistinct
distinct-take zero is u = tt
distinct-take (suc n) [] u = tt
distinct-take (suc n) (i ∷ is) u = (all-take (λ j. nat_eq i j ≡ false) n is u.0, distinct-take n is u.1)

-- ## Orders, which have every slot exactly once

pub distinct-moved : (order moved : List ℕ) → IsPermutation order moved → IsDistinct nat_eq order → IsDistinct nat_eq moved
distinct-moved order moved p u = IsDistinct-IsPermutation nat_eq nat_eq_sym order moved p u

pub IsOrder-moved : (size : ℕ) (order moved : List ℕ) → IsPermutation order moved → IsOrder size order → IsOrder size moved
IsOrder-moved size order moved p h = record {
  all = length_permutation order moved p ∙ h.all;
  within = recursion_from_All (λ i. i < size) moved (All-permutation (λ i. i < size) order moved p (All-from_recursion (λ i. i < size) order h.within));
  distinct = distinct-moved order moved p h.distinct;
}

pub IsOrder-forgotten : (size : ℕ) (order : List ℕ) (k x : ℕ) → k < length order → x ≡ get_or order k x → IsOrder size order → IsOrder size (remove order k ++ x ∷ [])
IsOrder-forgotten size order k x h e = IsOrder-moved size order (remove order k ++ x ∷ [])
    (IsPermutation-trans order (x ∷ remove order k) (remove order k ++ x ∷ []) (IsPermutation-remove order k x h e) (IsPermutation-append_comm (x ∷ []) (remove order k)))

-- a number is not in a list of numbers that are all below it
below_apart : (n : ℕ) (is : List ℕ) → AllByRecursion (λ i. i < n) is → list_any (nat_eq n) is ≡ false
below_apart n [] a = refl
below_apart n (i ∷ is) a = or_from (nat_eq n i) (list_any (nat_eq n) is) (ne_eqb n i (λ e. omega arith)) (below_apart n is a.1)

pub IsOrder-push : (n : ℕ) (order : List ℕ) → IsOrder n order → IsOrder (n + 1) (order ++ n ∷ [])
IsOrder-push n order h = grind (arith, common_steps, length-append, all-push, all-weaker, IsDistinct-push, nat_eq_equiv, below_apart)

pub IsOrder-none : IsOrder 0 []
unfolding IsDistinct
IsOrder-none = record { all = refl; within = tt; distinct = tt }

-- ## Removing one index

pub one-out : (is : List ℕ) (k : ℕ) → k < length is → IsPermutation is (get_or is k 0 ∷ remove is k)
one-out is k h = IsPermutation-remove is k (get_or is k 0) h (get_or_default is k 0 (get_or is k 0) h)

pub all-out : (P : ℕ → Type 0) (is : List ℕ) (k : ℕ) → k < length is → AllByRecursion P is → AllByRecursion P (remove is k)
all-out P is k h a = (recursion_from_All P (get_or is k 0 ∷ remove is k) (All-permutation P is (get_or is k 0 ∷ remove is k) (one-out is k h) (All-from_recursion P is a))).1

pub others-out : (is : List ℕ) (k : ℕ) → k < length is → IsDistinct nat_eq is → AllByRecursion (λ i. nat_eq (get_or is k 0) i ≡ false) (remove is k)
others-out is k h u = IsDistinct-head nat_eq (get_or is k 0) (remove is k) (distinct-moved is (get_or is k 0 ∷ remove is k) (one-out is k h) u)

-- each element of a list is found in the list
pub all-with : (is : List ℕ) → AllByRecursion (λ i. list_any (nat_eq i) is ≡ true) is
all-with [] = tt
all-with (i ∷ is) = (or_left (nat_eq i i) (list_any (nat_eq i) is) (eq-eqb i i refl), all-weaker (λ j. list_any (nat_eq j) is ≡ true) (λ j. list_any (nat_eq j) (i ∷ is) ≡ true) (λ j h. or_right (nat_eq j i) (list_any (nat_eq j) is) h) is (all-with is))

pub none-with : (s : ℕ) (is : List ℕ) → AllByRecursion (λ i. nat_eq s i ≡ false) is → list_any (nat_eq s) is ≡ false
none-with s [] a = refl
none-with s (i ∷ is) a = or_from (nat_eq s i) (list_any (nat_eq s) is) a.0 (none-with s is a.1)
