-- How an input is cut into lines: at each LF, and nowhere else.
use Rattle.std.specs.Prelude.{◌≡◌, ◌≢◌, ℕ, List, [], ◌∷◌, ◌++◌}
use Rattle.std.specs.List.{AllByRecursion}
use Rattle.lldp_program.specs.Trace.Lines.{ended_lines, lines_of}

-- no octet is LF
abbrev pub HasNoLf : List ℕ → Type 0
HasNoLf octets = AllByRecursion (λ octet. octet ≢ 0x0a) octets

-- lines one after another, each with LF after it
abbrev pub joined : List (List ℕ) → List ℕ
joined [] = []
joined (line ∷ lines) = line ++ 0x0a ∷ joined lines

-- The octets are these lines, each followed by LF, and the rest. Lines and rest contain no LF.
pub record IsCut (input : List ℕ) (lines : List (List ℕ)) (rest : List ℕ) : Type 0 where
  pub whole : input ≡ joined lines ++ rest
  pub each : AllByRecursion HasNoLf lines
  pub last : HasNoLf rest

-- Every input is cut, and in one way alone: `ended_lines` returns the lines, and `lines_of` also the
-- rest, unless it is empty.
pub record CutsLines (input : List ℕ) : Type 0 where
  pub cut : (lines : List (List ℕ)) × (rest : List ℕ) × IsCut input lines rest
  pub ended : (lines : List (List ℕ)) (rest : List ℕ) → IsCut input lines rest → ended_lines input ≡ lines
  pub whole : (lines : List (List ℕ)) → IsCut input lines [] → lines_of input ≡ lines
  pub unended : (lines : List (List ℕ)) (rest : List ℕ) → rest ≢ [] → IsCut input lines rest →
      lines_of input ≡ lines ++ rest ∷ []
