-- Lemmas about the lines that a sink takes.
use Rattle.std.proofs.Common.{◌≡◌, ℕ, suc, zero, ◌+◌, ◌<◌, List, [], ◌∷◌, ◌++◌, length, get_or, take, drop, map, Some, refl, ap, sym, ◌∙◌, add-one, append_assoc}
use Rattle.std.specs.Prelude.{slice_get}
use Rattle.std.specs.List.{flat_map}
use Rattle.std.proofs.Math.Seq.{take-suc}
use Rattle.std.proofs.lemmas.List.{append-nil, take-append-drop}
use Rattle.std.proofs.lemmas.Grind.{flat_map-append}
use Rattle.std.proofs.lemmas.List.Concat.{flat_map_single}
use Rattle.lldp_engine.specs.Takes.{Takes}

pub takes_none : {S : Type 0} (t : S → S → List ℕ → Type 0) (a : S) → Takes t a a []
unfolding Takes
takes_none t a = refl

-- If a sink takes a line and then more lines, it takes all of them in order.
pub takes_line : {S : Type 0} (t : S → S → List ℕ → Type 0) (a b c : S) (x : List ℕ) (xs : List (List ℕ)) → t a b x → Takes t b c xs → Takes t a c (x ∷ xs)
unfolding Takes
takes_line t a b c x xs h k = (b, h, k)

-- If a sink takes some lines and then more lines, it takes all of them in order.
pub takes_then : {S : Type 0} (t : S → S → List ℕ → Type 0) (a b c : S) (xs ys : List (List ℕ)) → Takes t a b xs → Takes t b c ys → Takes t a c (xs ++ ys)
unfolding Takes
takes_then t a b c [] ys h k = rw h k
takes_then t a b c (x ∷ xs) ys h k = (h.0, h.1, takes_then t h.0 b c xs ys h.2 k)

-- If no line changes a sink, it takes any lines and stays the same.
pub takes_all : {S : Type 0} (t : S → S → List ℕ → Type 0) (a : S) (xs : List (List ℕ)) → ((x : List ℕ) → t a a x) → Takes t a a xs
unfolding Takes
takes_all t a [] h = refl
takes_all t a (x ∷ xs) h = (a, h x, takes_all t a xs h)

-- If a sink took the lines of i elements and then of the next, it took those of i + 1 elements.
pub takes_next : {S X : Type 0} (t : S → S → List ℕ → Type 0) (f : X → List (List ℕ)) (a b c : S) (xs : List X) (i : ℕ) (d x : X) → i < length xs → x ≡ get_or xs i d → Takes t a b (flat_map f (take i xs)) → Takes t b c (f x) → Takes t a c (flat_map f (take (i + 1) xs))
takes_next t f a b c xs i d x lt e h k =
    rw (add-one, take-suc xs i d lt, flat_map-append f (take i xs) (get_or xs i d ∷ []), append-nil (f (get_or xs i d)), ← e) (takes_then t a b c _ _ h k)

-- `takes_next` with one line for each element
pub takes_next_line : {S X : Type 0} (t : S → S → List ℕ → Type 0) (f : X → List ℕ) (a b c : S) (xs : List X) (i : ℕ) (d x : X) → i < length xs → x ≡ get_or xs i d → Takes t a b (map f (take i xs)) → t b c (f x) → Takes t a c (map f (take (i + 1) xs))
takes_next_line t f a b c xs i d x lt e h k =
    rw (← flat_map_single f (take (i + 1) xs)) (takes_next t (λ y. f y ∷ []) a b c xs i d x lt e (rw (flat_map_single f (take i xs)) h) (takes_line t b c c (f x) [] k (takes_none t c)))

-- If no further line changes the sink, it counts as having taken the lines of all elements.
pub takes_rest : {S X : Type 0} (t : S → S → List ℕ → Type 0) (f : X → List (List ℕ)) (a b : S) (xs : List X) (i : ℕ) → Takes t a b (flat_map f (take i xs)) → ((x : List ℕ) → t b b x) → Takes t a b (flat_map f xs)
takes_rest t f a b xs i h k =
    let split : flat_map f xs ≡ flat_map f (take i xs) ++ flat_map f (drop i xs) = ap (flat_map f) (sym (take-append-drop i xs)) ∙ flat_map-append f (take i xs) (drop i xs) in
    rw split (takes_then t a b b _ _ h (takes_all t b _ k))

-- `takes_rest` with one line for each element
pub takes_rest_lines : {S X : Type 0} (t : S → S → List ℕ → Type 0) (f : X → List ℕ) (a b : S) (xs : List X) (i : ℕ) → Takes t a b (map f (take i xs)) → ((x : List ℕ) → t b b x) → Takes t a b (map f xs)
takes_rest_lines t f a b xs i h k =
    rw (← flat_map_single f xs) (takes_rest t (λ y. f y ∷ []) a b xs i (rw (flat_map_single f (take i xs)) h) k)

-- The sink took all the lines of `all` except the last ones, `left`.
abbrev pub TakesTo : {S : Type 0} → (S → S → List ℕ → Type 0) → S → S → List (List ℕ) → List (List ℕ) → Type 0
TakesTo t a b left all = (gone : List (List ℕ)) × (gone ++ left ≡ all) × Takes t a b gone

pub takes_more : {S : Type 0} (t : S → S → List ℕ → Type 0) (a b c : S) (xs left all : List (List ℕ)) → TakesTo t a b (xs ++ left) all → Takes t b c xs → TakesTo t a c left all
takes_more t a b c xs left all h k = (h.0 ++ xs, append_assoc h.0 xs left ∙ h.1, takes_then t a b c h.0 xs h.2 k)

drop_step : {X : Type 0} (y : X) (ys : List X) (k : ℕ) → drop (k + 1) ys ≡ drop (suc k + 1) (y ∷ ys)
drop_step y ys k = simp add-one

pub drop_at : {X : Type 0} (xs : List X) (k : ℕ) (x : X) → slice_get xs k ≡ Some x → drop k xs ≡ x ∷ drop (k + 1) xs
drop_at [] k x h = cc
drop_at (y ∷ ys) zero x h = let e : y ≡ x = cc in ap (λ z. z ∷ ys) e
drop_at (y ∷ ys) (suc k) x h = drop_at ys k x h ∙ ap (λ l. x ∷ l) (drop_step y ys k)

pub map_twice : {X Y Z : Type 0} (f : Y → Z) (g : X → Y) (xs : List X) → map f (map g xs) ≡ map (λ x. f (g x)) xs
map_twice f g [] = refl
map_twice f g (x ∷ xs) = ap (λ l. f (g x) ∷ l) (map_twice f g xs)
