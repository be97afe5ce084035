-- Lemmas about the loops that read and write digits in blocks.
use Rattle.std.proofs.Common.{◌≡◌, ℕ, ◌+◌, ◌*◌, ◌/◌, ◌%◌, ◌<◌, ◌≤◌, ◌-◌, zero, suc, List, Some, ◌++◌, length, drop, take, slice_index, true, Result, Ok, Err, inl, inr, refl, sym, ap, subst, ◌∙◌, arith}
use Rattle.std.proofs.lemmas.List.{set-get_or, get_or_past, get_or-take, length-take-le}
use Rattle.std.proofs.lemmas.List.Elements.{All-get_or}
use Rattle.std.proofs.lemmas.Bool.{cases_lt}
use Rattle.std.specs.Prelude.{IsOk}
use Rattle.std.specs.List.{AllPass}
use Rattle.std.proofs.lemmas.Simd.{get_or-chunk, get_or-put_chunk_at}
use Rattle.std.specs.Simd.Lanes.{chunk, put_chunk}
use Rattle.hex.specs.Hex.{hex_digit_value, is_hex_digit, decode_of, decode_pairs, encode_with, lower_digits}
use Rattle.hex.specs.declared.error.FromHexError.{FromHexError}
use Rattle.hex.proofs.HexLemmas.{decode_of-even, decode_pairs-ok}
use Rattle.hex.proofs.Pairs.{prepend, decode_start, decode_step, decode_done, encode_step, encode_done}
use Rattle.lldp_text.specs.Code.Digits.{IsValue, AreSmall, ArePairs, AreDigits}

module _ (s out : List ℕ) (long : length s ≡ 2 * length out) (all : (i : ℕ) → i < length out → ArePairs s out i) where
  up_to : (i : ℕ) → i ≤ length out → decode_pairs 0 s ≡ prepend (take i out) (decode_pairs (2 * i) (drop (2 * i) s))
  up_to zero h = decode_start s out
  up_to (suc i) h =
      let step = decode_step s out i (slice_index out i) (omega (arith, long)) (omega arith) (all i (omega arith)) (up_to i (omega arith)) in
      let n : suc i ≡ i + 1 = omega arith in
      rw n (subst (λ o. decode_pairs 0 s ≡ prepend (take (i + 1) o) (decode_pairs (2 * (i + 1)) (drop (2 * (i + 1)) s))) (set-get_or out i 0) step)

  -- if each pair of digits is read as its octet, the octets are those that `hex` decodes
  pub all_read : decode_pairs 0 s ≡ Ok out
  all_read = decode_done s out (length out) (omega arith) (omega (arith, long)) (up_to (length out) (omega arith))

module _ (input out : List ℕ) (long : length out ≡ 2 * length input) (all : (i : ℕ) → i < length input → AreDigits input out i) where
  written_to : (i : ℕ) → i ≤ length input → take (2 * i) out ++ encode_with lower_digits (drop i input) ≡ encode_with lower_digits input
  written_to zero h = refl
  written_to (suc i) h =
      let here = all i (omega arith) in
      let step = encode_step lower_digits input out i (slice_index out (2 * i)) (slice_index out (2 * i + 1)) (omega arith) (omega (arith, long)) here.0 here.1 (written_to i (omega arith)) in
      let n : suc i ≡ i + 1 = omega arith in
      rw n (rw (set-get_or out (2 * i) 0, set-get_or out (2 * i + 1) 0) at step)

  -- if each octet is written as its two digits, the digits are those that `hex` encodes
  pub all_written : out ≡ encode_with lower_digits input
  all_written = encode_done lower_digits input out (length input) (omega arith) long (written_to (length input) (omega arith))

known : (c v : ℕ) → IsValue c v → v < 16 → hex_digit_value c ≡ Some v
known c v h below = grind (arith)

-- the value of a digit is below 16
small : (c v : ℕ) → IsValue c v → is_hex_digit c ≡ true → v < 16
small c v h digit = grind (arith)

-- text that can be decoded consists of hexadecimal digits only
pub digits_of_ok : (s : List ℕ) → IsOk (decode_pairs 0 s) → AllPass is_hex_digit s
digits_of_ok s ok = go (decode_pairs 0 s) refl ok
  where
    go : (r : Result (List ℕ) FromHexError) → decode_pairs 0 s ≡ r → IsOk r → AllPass is_hex_digit s
    go (Ok bytes) e ok = (decode_pairs-ok 0 s bytes e).0
    go (Err fault) e ok = cc ok

-- the values of a block of digits are below 16
pub block_small : (s values : List ℕ) (at : ℕ) → length values ≡ 32 → 2 * at + 32 ≤ length s → AllPass is_hex_digit s
    → ((k : ℕ) → k < 32 → IsValue (slice_index (chunk (2 * at) 32 s) k) (slice_index values k)) → AreSmall values
block_small s values at many room digits read = λ k. elim (cases_lt k 32) [
  | inl l ↦
      let value : IsValue (slice_index s (2 * at + k)) (slice_index values k) = rw (get_or-chunk (2 * at) 32 s k 0 l) at (read k l) in
      small (slice_index s (2 * at + k)) (slice_index values k) value (All-get_or (λ c. is_hex_digit c ≡ true) s (2 * at + k) 0 (omega arith) digits)
  | inr g ↦ rw (get_or_past values k 0 (omega (arith, many))) (omega arith)
]

-- in a block that is read, each octet is the value of its two digits, if these are digits
pub pair_at : (s out values octets : List ℕ) (at k : ℕ) → at + 16 ≤ length out → length octets ≡ 16
    → ((j : ℕ) → j < 32 → IsValue (slice_index (chunk (2 * at) 32 s) j) (slice_index values j))
    → ((j : ℕ) → j < 16 → slice_index values (2 * j) < 16 → slice_index values (2 * j + 1) < 16 → slice_index octets j ≡ slice_index values (2 * j) * 16 + slice_index values (2 * j + 1))
    → k < 16 → slice_index values (2 * k) < 16 → slice_index values (2 * k + 1) < 16 → ArePairs s (put_chunk at out octets) (at + k)
pair_at s out values octets at k room many read joined here high low =
    let a : 2 * at + 2 * k ≡ 2 * (at + k) = omega arith in
    let b : 2 * at + (2 * k + 1) ≡ 2 * (at + k) + 1 = omega arith in
    let one : IsValue (slice_index s (2 * (at + k))) (slice_index values (2 * k)) = rw (get_or-chunk (2 * at) 32 s (2 * k) 0 (omega arith), a) at (read (2 * k) (omega arith)) in
    let two : IsValue (slice_index s (2 * (at + k) + 1)) (slice_index values (2 * k + 1)) = rw (get_or-chunk (2 * at) 32 s (2 * k + 1) 0 (omega arith), b) at (read (2 * k + 1) (omega arith)) in
    let stored = get_or-put_chunk_at at out octets k 0 (omega (arith, many)) (omega (arith, many)) in
    let first = known (slice_index s (2 * (at + k))) (slice_index values (2 * k)) one high in
    let second = known (slice_index s (2 * (at + k) + 1)) (slice_index values (2 * k + 1)) two low in
    let put : slice_index (put_chunk at out octets) (at + k) ≡ slice_index values (2 * k) * 16 + slice_index values (2 * k + 1) = stored ∙ joined k here high low in
    rw (first, second, put) refl

-- the same for a place that is counted from the beginning
pub block_read : (s out values : List ℕ) (at end : ℕ) → ((k : ℕ) → k < 16 → slice_index values (2 * k) < 16 → slice_index values (2 * k + 1) < 16 → ArePairs s out (at + k))
    → ((k : ℕ) → k < end → slice_index values k < 16) → (i : ℕ) → at ≤ i → i < at + 16 → 2 * (i - at) + 1 < end → ArePairs s out i
block_read s out values at end pairs small i from to within =
    let here : at + (i - at) ≡ i = omega arith in
    subst (ArePairs s out) here (pairs (i - at) (omega arith) (small (2 * (i - at)) (omega arith)) (small (2 * (i - at) + 1) within))

-- if each pair of digits at the front is read as its octet, the octets are those that `hex` decodes
pub front_read : (s out : List ℕ) (n : ℕ) → 2 * n ≤ length s → n ≤ length out → ((i : ℕ) → i < n → ArePairs s out i) → decode_of (take (2 * n) s) ≡ Ok (take n out)
front_read s out n within room all =
    let long : length (take (2 * n) s) ≡ 2 * n = length-take-le (2 * n) s within in
    let few : length (take n out) ≡ n = length-take-le n out room in
    decode_of-even (take (2 * n) s) (omega (arith, long)) ∙ all_read (take (2 * n) s) (take n out) (omega (arith, long, few)) (λ i h.
    let l : i < n = omega (arith, few) in
    rw (get_or-take (2 * n) s (2 * i) 0 (omega arith), get_or-take (2 * n) s (2 * i + 1) 0 (omega arith), get_or-take n out i 0 l) (all i l))

-- in a block that is written, each octet is written as its two digits
pub digits_at : (octets digits hs ls high low both : List ℕ) (at i : ℕ) → length digits ≡ 2 * length octets → at + 16 ≤ length octets → length both ≡ 32
    → ((k : ℕ) → k < 16 → slice_index hs k ≡ slice_index octets (at + k) / 16) → ((k : ℕ) → k < 16 → slice_index ls k ≡ slice_index octets (at + k) % 16)
    → ((k : ℕ) → slice_index octets k < 256)
    → ((k : ℕ) → k < 16 → slice_index hs k < 16 → slice_index high k ≡ slice_index lower_digits (slice_index hs k))
    → ((k : ℕ) → k < 16 → slice_index ls k < 16 → slice_index low k ≡ slice_index lower_digits (slice_index ls k))
    → ((k : ℕ) → k < 16 → (slice_index both (2 * k) ≡ slice_index high k) × (slice_index both (2 * k + 1) ≡ slice_index low k))
    → at ≤ i → i < at + 16 → AreDigits octets (put_chunk (2 * at) digits both) i
digits_at octets digits hs ls high low both at i long room many upper lower bytes dh dl turns from to =
    let k : ℕ = i - at in
    let h : k < 16 = omega arith in
    let here : at + k ≡ i = omega arith in
    let a : 2 * at + 2 * k ≡ 2 * i = omega (arith, here) in
    let b : 2 * at + (2 * k + 1) ≡ 2 * i + 1 = omega (arith, here) in
    let one = get_or-put_chunk_at (2 * at) digits both (2 * k) 0 (omega (arith, many)) (omega (arith, many, long)) in
    let two = get_or-put_chunk_at (2 * at) digits both (2 * k + 1) 0 (omega (arith, many)) (omega (arith, many, long)) in
    let byte = bytes (at + k) in
    let eh = upper k h in
    let el = lower k h in
    let high_digit = dh k h (omega (arith, eh, byte)) in
    let low_digit = dl k h (omega (arith, el)) in (
      ap (λ j. slice_index (put_chunk (2 * at) digits both) j) (sym a) ∙ one ∙ (turns k h).0 ∙ high_digit ∙ ap (slice_index lower_digits) eh ∙ ap (λ j. slice_index lower_digits (slice_index octets j / 16)) here,
      ap (λ j. slice_index (put_chunk (2 * at) digits both) j) (sym b) ∙ two ∙ (turns k h).1 ∙ low_digit ∙ ap (slice_index lower_digits) el ∙ ap (λ j. slice_index lower_digits (slice_index octets j % 16)) here,
    )
