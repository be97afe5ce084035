-- A list with a fixed capacity.
use Rattle.std.specs.Prelude.{ℕ, List, length, slice_set}
use Rattle.std.specs.List.{refill}

-- the items, and the number of items that there is room for
pub record Reserved (X : Type 0) : Type 0 where
  pub items : List X
  pub capacity : ℕ

-- the room with the item at this index replaced
abbrev pub with_item : {X : Type 0} → Reserved X → ℕ → X → Reserved X
with_item room i item = record room { items = slice_set room.items i item }

-- the room with its items replaced by the same number of others
abbrev pub with_items : {X : Type 0} → Reserved X → List X → Reserved X
with_items room items = record room { items = refill (length room.items) room.items items }
