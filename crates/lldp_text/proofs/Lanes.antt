-- Vectors whose lanes are computed from the lanes of another vector.
use Rattle.std.proofs.Common.{◌≡◌, ℕ, zero, suc, ◌+◌, ◌-◌, T, ◌*◌, ◌/◌, ◌%◌, ◌^◌, ◌<◌, ◌≤◌, min, Bool, ◌&&◌, not, true, false, nat_lt, if◌then◌else◌, List, [], ◌∷◌, ◌++◌, map, length, get_or, replicate, cond, leb, eqb, bit_and, bit_or, Option, Some, None, Fits, w8, eqb-true, refl, sym, ap, subst, ◌∙◌, inl, inr, arith}
use Rattle.std.proofs.lemmas.Bool.{agree_below, agree_below_at, and_parts, cases_eq, cases_lt, eq-eqb, ne_eqb, leb-false, lt-ltb, ltb-true}
use Rattle.std.proofs.lemmas.List.{get_or-map, get_or_past, get_or_append_left, get_or-append_right, drop_more, length-map, take_all}
use Rattle.std.proofs.lemmas.Simd.{map-map, zip2_of_maps, zip2_splat, mask_l-mod, get_or_wider, below_from_Fits, Each1-get_or, first_set_mask_l, tops_compared, zip2_splat_left, run_in_chunk_fails}
use Rattle.std.proofs.lemmas.Nat.{le_or_l, le_or_r}
use Rattle.std.specs.Prelude.{◌↔◌}
use Rattle.std.specs.List.{prefix_len}
use lib.Count.{count_trailing_zeros}
use Rattle.std.specs.Simd.Lanes.{fold_l, zip2, sel_l, mask_l, top, chunk, number_l, digits_l, pick_l, Each1}
use Rattle.hex.specs.Hex.{hex_digit_value, lower_digits}
use Rattle.lldp_text.specs.Code.Digits.{IsValue, AreSmall}
use Rattle.std.proofs.lemmas.Grind.{common_steps}

-- if f is applied to a vector and a splat of y, lane k of the result is f of lane k and y
pub splat_lane : (f : ℕ → ℕ → ℕ) (v : List ℕ) (n y k : ℕ) → length v ≡ n → k < n → get_or (zip2 f v (replicate n y)) k 0 ≡ f (get_or v k 0) y
splat_lane f v n y k long h = ap (λ l. get_or l k 0) (zip2_splat f v n y long) ∙ get_or-map (λ x. f x y) v k 0 0 (omega (arith, long))

choice : (p : ℕ → Bool) (g h : ℕ → ℕ) (v : List ℕ) → sel_l (map p v) (map g v) (map h v) ≡ map (λ x. cond (p x) (g x) (h x)) v
choice p g h [] = refl
choice p g h (x ∷ xs) = ap (λ r. cond (p x) (g x) (h x) ∷ r) (choice p g h xs)

-- a select by the test t takes each lane from the third vector if the test passes, else the fourth
pub chosen : (t : ℕ → ℕ → ℕ) (f g h k : ℕ → ℕ) (v : List ℕ) {a b c d : List ℕ} → a ≡ map f v → b ≡ map g v → c ≡ map h v → d ≡ map k v
    → sel_l (map (top 7) (zip2 t a b)) c d ≡ map (λ x. cond (top 7 (t (f x) (g x))) (h x) (k x)) v
chosen t f g h k v p q r s =
    let m = ap (map (top 7)) (zip2_of_maps t f g v p q) ∙ map-map (top 7) (λ x. t (f x) (g x)) v in
    rw (m, r, s) (choice (λ x. top 7 (t (f x) (g x))) h k v)

abbrev pub same : Option ℕ → Option ℕ → Bool
same None None = true
same None (Some b) = false
same (Some a) None = false
same (Some a) (Some b) = eqb a b

same_is : (a b : Option ℕ) → T (same a b) → a ≡ b
same_is a b t = grind (arith, common_steps)

abbrev pub value_test : (ℕ → ℕ) → ℕ → Bool
value_test f c = same (hex_digit_value c) (if nat_lt (f c) 16 then Some (f c) else None)

-- if f computes the digit value of each of the 256 octets, each lane is the value of its octet
pub values_are : (f : ℕ → ℕ) (v : List ℕ) {z : List ℕ} → z ≡ map f v → length v ≡ 32 → Each1 (Fits w8) v → agree_below (value_test f) (λ _. true) 256 ≡ true
    → (length z ≡ 32) × ((k : ℕ) → k < 32 → IsValue (get_or v k 0) (get_or z k 0))
values_are f v e long fits all = (
  ap length e ∙ length-map v f ∙ long,
  λ k h.
      let at = ap (λ l. get_or l k 0) e ∙ get_or-map f v k 0 0 (omega (arith, long)) in
      let small = Each1-get_or (λ x. x < 256) v k 0 (omega (arith, long)) (below_from_Fits w8 v fits) in
      rw at (same_is _ _ (subst T (sym (agree_below_at (value_test f) (λ _. true) 256 (get_or v k 0) all small)) tt)),
)

-- if f computes the digit of each value below 16, each lane is the digit of its value
pub digits_are : (f : ℕ → ℕ) (v : List ℕ) {z : List ℕ} → z ≡ map f v → length v ≡ 16 → agree_below (λ c. eqb (f c) (get_or lower_digits c 0)) (λ _. true) 16 ≡ true
    → (k : ℕ) → k < 16 → get_or v k 0 < 16 → get_or z k 0 ≡ get_or lower_digits (get_or v k 0) 0
digits_are f v e long all k h small = grind (arith, common_steps, get_or-map, eqb-true, agree_below_at)

two_lanes : (v : List ℕ) (i : ℕ) → i + 1 < length v → chunk i 2 v ≡ get_or v i 0 ∷ get_or v (i + 1) 0 ∷ []
two_lanes v i h = grind (arith, common_steps, drop_more)

abbrev pub upper_half : ℕ → ℕ → ℕ
upper_half factor x = x * factor % 65536 / 256

abbrev pub octet_test : (ℕ → ℕ) → ℕ → Bool
octet_test f p = eqb (f (p / 16 + 256 * (p % 16))) p

-- if multiplying by `factor` joins each of the 256 pairs correctly, each lane is its pair's octet
pub octet_at : (factor : ℕ) (v : List ℕ) → length v ≡ 32 → Each1 (Fits w8) v → agree_below (octet_test (upper_half factor)) (λ _. true) 256 ≡ true
    → (k : ℕ) → k < 16 → get_or v (2 * k) 0 < 16 → get_or v (2 * k + 1) 0 < 16
    → get_or (map (upper_half factor) (digits_l 65536 16 (number_l 256 v))) k 0 ≡ get_or v (2 * k) 0 * 16 + get_or v (2 * k + 1) 0
octet_at factor v long fits all k h high low =
    let f : ℕ → ℕ = upper_half factor in
    let a : ℕ = get_or v (2 * k) 0 in
    let b : ℕ = get_or v (2 * k + 1) 0 in
    let pair : get_or (digits_l 65536 16 (number_l 256 v)) k 0 ≡ a + 256 * (b + 256 * 0) =
    get_or_wider 256 2 65536 16 v k refl (below_from_Fits w8 v fits) h ∙ ap (number_l 256) (two_lanes v (2 * k) (omega (arith, long))) in
    let numbered : a + 256 * (b + 256 * 0) ≡ (a * 16 + b) / 16 + 256 * ((a * 16 + b) % 16) = omega (arith, high, low) in
    get_or-map f (digits_l 65536 16 (number_l 256 v)) k 0 0 h ∙ ap f (pair ∙ numbered)
    ∙ eqb-true _ _ (agree_below_at (octet_test f) (λ _. true) 256 (a * 16 + b) all (omega (arith, high, low)))

or_zero : (m x y : ℕ) → m ≡ bit_or x y → m ≡ 0 → (x ≡ 0) × (y ≡ 0)
or_zero m x y is none = (omega (arith, le_or_l x y), omega (arith, le_or_r x y))

all_zero : (xs : List ℕ) (start : ℕ) → fold_l bit_or start xs ≡ 0 → (start ≡ 0) × ((k : ℕ) → get_or xs k 0 ≡ 0)
all_zero [] start e = (e, λ k. refl)
all_zero (x ∷ xs) start e =
    let later = all_zero xs (bit_or start x) e in
    let parts = or_zero _ start x refl later.0 in
    (parts.0, go parts.1 later.1)
  where
    go : x ≡ 0 → ((k : ℕ) → get_or xs k 0 ≡ 0) → (k : ℕ) → get_or (x ∷ xs) k 0 ≡ 0
    go here rest zero = here
    go here rest (suc k) = rest k

zero_all : (xs : List ℕ) → ((k : ℕ) → get_or xs k 0 ≡ 0) → fold_l bit_or 0 xs ≡ 0
zero_all [] all = refl
zero_all (x ∷ xs) all = let here : x ≡ 0 = all 0 in rw here (zero_all xs (λ k. all (suc k)))

-- no lane has one of the upper four bits exactly if all lanes are below 16
pub no_upper_bits : (v : List ℕ) → length v ≡ 32 → Each1 (Fits w8) v → (eqb (fold_l bit_or 0 (zip2 bit_and v (replicate 32 240))) 0 ≡ true) ↔ AreSmall v
no_upper_bits v long fits =
    let masked = zip2 bit_and v (replicate 32 240) in
    let many : length masked ≡ 32 = ap length (zip2_splat bit_and v 32 240 long) ∙ length-map v (λ x. bit_and x 240) ∙ long in
    let agree = λ (k : ℕ) (l : k < 32). agree_below_at (λ x. eqb (bit_and x 240) 0) (λ x. nat_lt x 16) 256 (get_or v k 0) refl (Each1-get_or (λ x. x < 256) v k 0 (omega (arith, long)) (below_from_Fits w8 v fits)) in (
      λ none k. elim (cases_lt k 32) [
        | inl l ↦
            let here = (all_zero masked 0 (eqb-true _ _ none)).1 k in
            ltb-true _ _ (sym (agree k l) ∙ eq-eqb _ _ (sym (splat_lane bit_and v 32 240 k long l) ∙ here))
        | inr g ↦ rw (get_or_past v k 0 (omega (arith, long))) (omega arith)
      ],
      λ small. eq-eqb _ _ (zero_all masked (λ k. elim (cases_lt k 32) [
        | inl l ↦ splat_lane bit_and v 32 240 k long l ∙ eqb-true _ _ (agree k l ∙ lt-ltb _ _ (small k))
        | inr g ↦ get_or_past masked k 0 (omega (arith, many))
      ])),
    )

abbrev at_least : ℕ → ℕ → ℕ
at_least a b = cond (leb a b) 255 0

-- the lanes before the lowest set bit of the mask are below n
pub before_mask : (n : ℕ) (v : List ℕ) (r : ℕ) → length v ≡ 32 → r ≡ min (count_trailing_zeros 64 (mask_l (map (top 7) (zip2 at_least (replicate 32 n) v)) % 2 ^ 64)) 32
    → (k : ℕ) → k < r → get_or v k 0 < n
before_mask n v r long is k h =
    let mask : mask_l (map (top 7) (zip2 at_least (replicate 32 n) v)) % 2 ^ 64 ≡ mask_l (map (leb n) v) =
    ap (λ ms. mask_l ms % 2 ^ 64) (tops_compared w8 leb (replicate 32 n) v ∙ zip2_splat_left leb n 32 v long) ∙ mask_l-mod (map (leb n) v) 64 (omega (arith, length-map v (leb n), long)) in
    let first = first_set_mask_l (leb n) v 32 long (omega arith) in
    let whole : chunk 0 32 v ≡ v = take_all 32 v (omega (arith, long)) in
    let counted : prefix_len (λ x. not (leb n x)) v ≡ prefix_len (λ x. not (leb n x)) (chunk 0 32 v) = ap (prefix_len (λ x. not (leb n x))) (sym whole) in
    let within : r ≤ prefix_len (λ x. not (leb n x)) v = below (mask_l (map (leb n) v)) _ r first (is ∙ ap (λ m. min (count_trailing_zeros 64 m) 32) mask) in
    leb-false n (get_or v k 0) (run_in_chunk_fails (leb n) v 0 32 (prefix_len (λ x. not (leb n x)) v) 0 (omega (arith, long)) counted k (omega arith) (omega arith))
  where
    below : (m p r : ℕ) → cond (eqb m 0) 32 (count_trailing_zeros 64 m) ≡ p → r ≡ min (count_trailing_zeros 64 m) 32 → r ≤ p
    below m p r first is = elim (cases_eq m 0) [
      | inl e ↦ let t : eqb m 0 ≡ true = eq-eqb m 0 e in omega (arith, is, rw t at first)
      | inr ne ↦ let t : eqb m 0 ≡ false = ne_eqb m 0 ne in omega (arith, is, rw t at first)
    ]

-- a shuffle with these places takes the lanes of a and b alternately, a lane of a first
pub turns_are : (places a b : List ℕ) → length places ≡ 32 → length a ≡ 16
    → agree_below (λ j. eqb (get_or places (2 * j) 0) j && eqb (get_or places (2 * j + 1) 0) (16 + j)) (λ _. true) 16 ≡ true
    → (k : ℕ) → k < 16 → (get_or (pick_l 0 (a ++ b) places) (2 * k) 0 ≡ get_or a k 0) × (get_or (pick_l 0 (a ++ b) places) (2 * k + 1) 0 ≡ get_or b k 0)
turns_are places a b many long all k h =
    let both = and_parts _ _ (agree_below_at (λ j. eqb (get_or places (2 * j) 0) j && eqb (get_or places (2 * j + 1) 0) (16 + j)) (λ _. true) 16 k all h) in
    let one : get_or places (2 * k) 0 ≡ k = eqb-true _ _ both.0 in
    let two : get_or places (2 * k + 1) 0 ≡ 16 + k = eqb-true _ _ both.1 in
    let back : 16 + k - 16 ≡ k = omega arith in (
      get_or-map (λ j. get_or (a ++ b) j 0) places (2 * k) 0 0 (omega (arith, many)) ∙ ap (λ j. get_or (a ++ b) j 0) one ∙ get_or_append_left a b 0 k (omega (arith, long)),
      get_or-map (λ j. get_or (a ++ b) j 0) places (2 * k + 1) 0 0 (omega (arith, many)) ∙ ap (λ j. get_or (a ++ b) j 0) two ∙ get_or-append_right a b 16 (16 + k) 0 long (omega arith) ∙ ap (λ j. get_or b j 0) back,
    )

-- the lower four bits of an octet are its remainder modulo 16
pub low_bits : (x : ℕ) → x < 256 → bit_and x 15 ≡ x % 16
low_bits x h = eqb-true _ _ (agree_below_at (λ j. eqb (bit_and j 15) (j % 16)) (λ _. true) 256 x refl h)
