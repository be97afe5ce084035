-- Ranges of octets.
use Rattle.std.specs.Prelude.{◌≡◌, ℕ, ◌+◌, ◌-◌, ◌≤◌, List, length, take, drop}
use Rattle.lldpa_c.specs.declared.place.LldpaPlace.{LldpaPlace}

-- the octets of a range
abbrev pub octets_at : List ℕ → LldpaPlace → List ℕ
octets_at octets place = take place.length (drop place.start octets)

-- the range lies within the octets
abbrev pub IsIn : List ℕ → LldpaPlace → Type 0
IsIn octets place = place.start + place.length ≤ length octets

-- the range lies within the octets, and contains this body
pub record Holds (octets : List ℕ) (place : LldpaPlace) (body : List ℕ) : Type 0 where
  pub within : IsIn octets place
  pub held : octets_at octets place ≡ body

-- Of a buffer, at most the first `written` octets were changed.
pub record KeepsRest (written : ℕ) (room_before room : List ℕ) : Type 0 where
  pub within : written ≤ length room
  pub rest : drop written room ≡ drop written room_before

-- the octets end with `last`
pub record EndsWith (octets last : List ℕ) : Type 0 where
  pub within : length last ≤ length octets
  pub is : last ≡ drop (length octets - length last) octets
