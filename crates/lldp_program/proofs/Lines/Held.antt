-- The octets at the front of the buffer after a call of `hold`.
use Rattle.std.proofs.Common.{◌≡◌, ℕ, ◌+◌, ◌-◌, ◌≤◌, min, List, ◌++◌, length, take, drop, sym, ap, ◌∙◌, inl, inr, arith, length-drop, length-take}
use Rattle.std.specs.List.{copy_within}
use Rattle.std.proofs.lemmas.Bool.{cases_lt}
use Rattle.std.proofs.lemmas.List.{drop-take, take-take, take_all, take_at, length-take-le}

-- the first n of the first m elements are the first min(m, n) elements
pub take-take_min : (n m : ℕ) (xs : List ℕ) → take n (take m xs) ≡ take (min m n) xs
take-take_min n m xs = elim (cases_lt m n) [
  | inl lt ↦ let e : min m n ≡ m = omega arith in take_all n (take m xs) (omega (arith, length-take m xs)) ∙ ap (λ k. take k xs) (sym e)
  | inr le ↦ let e : min m n ≡ n = omega arith in take-take n m xs le ∙ ap (λ k. take k xs) (sym e)
]

between_front : (xs : List ℕ) (start end n : ℕ) → start ≤ end → take n (drop start (take end xs)) ≡ take (min (end - start) n) (drop start xs)
between_front xs start end n order =
    let e : end ≡ start + (end - start) = omega arith in
    ap (λ k. take n (drop start (take k xs))) e ∙ ap (take n) (drop-take start (end - start) xs) ∙ take-take_min n (end - start) (drop start xs)

-- after a move, the buffer begins with the first 4,097 octets from `start` to `end`
pub held_moved : (xs : List ℕ) (start end held : ℕ) → start ≤ end → end ≤ length xs → held ≡ min (end - start) 4097 → take held (copy_within xs start (start + held) 0) ≡ take 4097 (drop start (take end xs))
held_moved xs start end held order within is =
    let n : start + held - start ≡ held = omega arith in
    let long : held ≤ length (drop start xs) = omega (arith, length-drop start xs) in
    ap (λ k. take held (take 0 xs ++ take k (drop start xs) ++ drop (0 + k) xs)) n
    ∙ take_at (take held (drop start xs)) (drop (0 + held) xs) held (length-take-le held (drop start xs) long) ∙ ap (λ k. take k (drop start xs)) is ∙ sym (between_front xs start end 4097 order)

-- if `start` is 0, the buffer already begins with the first 4,097 octets up to `end`
pub held_there : (xs : List ℕ) (start end held : ℕ) → start ≡ 0 → held ≡ min (end - start) 4097 → take held xs ≡ take 4097 (drop start (take end xs))
held_there xs start end held zero is =
    let order : start ≤ end = omega arith in
    sym (between_front xs start end 4097 order ∙ ap (λ k. take (min (end - start) 4097) (drop k xs)) zero ∙ ap (λ k. take k xs) (sym is))
