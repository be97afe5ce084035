-- How an input is cut at each LF, octet by octet.
use Rattle.std.specs.Prelude.{ℕ, List, [], ◌∷◌, ◌==◌, if◌then◌else◌}

-- puts an octet at the front of the first of these lines
abbrev pub onto_lines : ℕ → List (List ℕ) → List (List ℕ)
onto_lines octet [] = []
onto_lines octet (line ∷ lines) = (octet ∷ line) ∷ lines

-- puts an octet at the front of the rest, if no line comes before the rest
abbrev pub onto_rest : ℕ → List (List ℕ) → List ℕ → List ℕ
onto_rest octet [] rest = octet ∷ rest
onto_rest octet (line ∷ lines) rest = rest

-- the pieces before each LF
abbrev pub pieces : List ℕ → List (List ℕ)
pieces [] = []
pieces (octet ∷ octets) = if octet == 10 then [] ∷ pieces octets else onto_lines octet (pieces octets)

-- what follows the last LF
abbrev pub unfinished : List ℕ → List ℕ
unfinished [] = []
unfinished (octet ∷ octets) =
    if octet == 10 then unfinished octets else onto_rest octet (pieces octets) (unfinished octets)

-- the last line, or no line if it is empty
abbrev pub if_any : List ℕ → List (List ℕ)
if_any [] = []
if_any (octet ∷ octets) = (octet ∷ octets) ∷ []
