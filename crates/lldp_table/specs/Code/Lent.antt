-- Mutable references to one item of a room, or to all its items.
use Rattle.std.specs.Prelude.{ℕ, List}
use Rattle.std.specs.Borrow.{Fml, RattleType, MutBor, Array, Lends}
use Rattle.std.specs.declared.alloc.Allocator.{Ghosts}
use Rattle.lldp_table.specs.Code.Room.{Reserved, with_item, with_items}
use Rattle.lldp_table.specs.contracts.room.Room.{the_row}

-- When the borrow ends, the item or items in the room have the final value of the reference.
module _ (T A : RattleType) (heap : Ghosts A.Denot) where
  abbrev pub LendsItem : MutBor (Reserved T.Denot) → ℕ → MutBor T.Denot → Fml
  LendsItem room i item = Lends (the_row T A heap) T room item (with_item room.now i)

  abbrev pub LendsItems : MutBor (Reserved T.Denot) → MutBor (List T.Denot) → Fml
  LendsItems room items = Lends (the_row T A heap) (Array T 0) room items (with_items room.now)
