-- Replacing all items of a room gives exactly the new items.
use Rattle.std.proofs.Common.{◌≡◌, List, length, drop, take_at}
use Rattle.lldp_table.specs.Code.Room.{Reserved, with_items}

pub with_items_is : {X : Type 0} (room : Reserved X) (items : List X) → length items ≡ length room.items → (with_items room items).items ≡ items
with_items_is room items e = take_at items (drop (length items) room.items) (length room.items) e
