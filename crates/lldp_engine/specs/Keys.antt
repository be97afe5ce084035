-- The starts of the lines of shows, and lines with numbers.
use Rattle.std.specs.Prelude.{ℕ, List, ◌++◌, map, codes, decimal}

-- Returns a word, the name of a port and a `.`, joined.
abbrev pub front_of : List ℕ → List ℕ → List ℕ
front_of word name = word ++ name ++ codes "."

-- Returns `lldp.PORT.`
abbrev pub port_key : List ℕ → List ℕ
port_key name = front_of (codes "lldp.") name

-- Returns `lldp.PORT.N.`
abbrev pub neighbor_key : List ℕ → ℕ → List ℕ
neighbor_key name number = port_key name ++ decimal number ++ codes "."

-- Returns a line for each number: its start, its key, and the number in decimal.
abbrev pub number_lines : List ℕ → List (List ℕ × ℕ) → List (List ℕ)
number_lines front numbers = map (λ number. front ++ (number.0 ++ decimal number.1)) numbers
