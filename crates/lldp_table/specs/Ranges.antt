-- The greatest number of neighbors. A law ties the constant of the code to it.
use Rattle.std.specs.Prelude.{ℕ}

-- the most neighbors that a table may hold
abbrev pub most_neighbors : ℕ
most_neighbors = 128
