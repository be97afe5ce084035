-- How hexadecimal digits and octets correspond, position by position.
use Rattle.std.specs.Prelude.{◌≡◌, ℕ, ◌<◌, ◌+◌, ◌*◌, ◌/◌, ◌%◌, List, slice_index, nat_lt, if◌then◌else◌, Some, None, Ok}
use Rattle.hex.specs.Hex.{hex_digit_value, pair_value, lower_digits}

-- v is the value of the digit c, or 16 or more if c is not a digit
abbrev pub IsValue : ℕ → ℕ → Type 0
IsValue c v = hex_digit_value c ≡ (if nat_lt v 16 then Some v else None)

-- each element is below 16
abbrev pub AreSmall : List ℕ → Type 0
AreSmall values = (k : ℕ) → slice_index values k < 16

-- digits 2i and 2i + 1 are read as octet i
abbrev pub ArePairs : List ℕ → List ℕ → ℕ → Type 0
ArePairs digits octets i =
    pair_value (slice_index digits (2 * i)) (slice_index digits (2 * i + 1)) (2 * i) ≡ Ok (slice_index octets i)

-- octet i is written as digits 2i and 2i + 1
abbrev pub AreDigits : List ℕ → List ℕ → ℕ → Type 0
AreDigits octets digits i =
    (slice_index digits (2 * i) ≡ slice_index lower_digits (slice_index octets i / 16))
    × (slice_index digits (2 * i + 1) ≡ slice_index lower_digits (slice_index octets i % 16))
