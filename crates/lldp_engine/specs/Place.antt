-- The number of the port that has a name.
use Rattle.std.specs.Prelude.{ℕ, ◌+◌, List, [], ◌∷◌, Option, Some, None, if◌then◌else◌}
use Rattle.std.specs.Str.{bytes_eq}

-- Returns the first place of a name in the list, counted from i.
abbrev pub place_from : ℕ → List (List ℕ) → List ℕ → Option ℕ
place_from i [] word = None
place_from i (name ∷ names) word = if bytes_eq name word then Some i else place_from (i + 1) names word

-- Returns the number of the port with this name, from 0.
abbrev pub place_of : List (List ℕ) → List ℕ → Option ℕ
place_of names word = place_from 0 names word
