-- A value, and the number of reads and writes of its stored times.
use Rattle.std.specs.Prelude.{ℕ}

-- in contracts, a table is such a pair
pub record Counted (X : Type 0) : Type 0 where
  pub shown : X
  pub accesses : ℕ
