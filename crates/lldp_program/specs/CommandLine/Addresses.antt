-- How addresses are written in the program's options.
use Rattle.std.specs.Prelude.{◌≡◌, ℕ, List, [], ◌∷◌, length, map, slice_index, codes, Ok}
use Rattle.hex.specs.Hex.{decode_of}

-- the octets at these places
abbrev pub at_places : List ℕ → List ℕ → List ℕ
at_places text places = map (slice_index text) places

-- The text of a MAC address has 17 octets: a `:` at every third place, and elsewhere hexadecimal
-- digits, in either case, that spell the six octets of the address.
pub record IsMac (text mac : List ℕ) : Type 0 where
  pub long : length text ≡ 17
  pub colons : at_places text (2 ∷ 5 ∷ 8 ∷ 11 ∷ 14 ∷ []) ≡ codes ":::::"
  pub digits : decode_of (at_places text (0 ∷ 1 ∷ 3 ∷ 4 ∷ 6 ∷ 7 ∷ 9 ∷ 10 ∷ 12 ∷ 13 ∷ 15 ∷ 16 ∷ [])) ≡ Ok mac
