-- A mark for each slot, and an order whose marked slots are moved.
use Rattle.std.specs.Prelude.{ℕ, Bool, false, not, List, ◌++◌, take, drop, slice_index_or}
use Rattle.std.specs.List.{filter}

-- the slot has a mark
abbrev pub has_mark : List Bool → ℕ → Bool
has_mark marks slot = slice_index_or marks slot false

-- the order with the marked ones among its first n slots behind the others of them
abbrev pub parted : (ℕ → Bool) → ℕ → List ℕ → List ℕ
parted mark n order = filter (λ i. not (mark i)) (take n order) ++ filter mark (take n order) ++ drop n order
