-- Which port a word names.
use Rattle.std.specs.Prelude.{◌≡◌, ◌≢◌, ℕ, ◌<◌, List, slice_get, Some}

-- The word is the name at this place, octet for octet, and no name before it is the word.
pub record IsFirstPlace (names : List (List ℕ)) (word : List ℕ) (i : ℕ) : Type 0 where
  pub here : slice_get names i ≡ Some word
  pub first : (j : ℕ) → j < i → slice_get names j ≢ Some word
