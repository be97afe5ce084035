-- What a tick does to the order of the slots.
use Rattle.std.specs.Prelude.{◌≡◌, ℕ, ◌-◌, ◌≤◌, List, take, filter_map, IsPermutation}
use Rattle.std.specs.List.{filter}
use Rattle.lldp_table.specs.Code.Steps.{aged, expires}
use Rattle.lldp_table.specs.Code.Stored.{Stored}
use Rattle.lldp_table.specs.Code.Queue.{Due, ticks_left, IsTimed}
use Rattle.lldp_table.specs.Code.Layout.{neighbors_at, gone_at}

-- The slots of the neighbors that live on come first, and then those of the others, both in order.
pub record Aged (before after : List Due) (order new : List ℕ) (used kept : ℕ) : Type 0 where
  pub neighbors : (slots : List Stored) →
      neighbors_at slots (ticks_left after) (take kept new) ≡ filter_map aged (neighbors_at slots (ticks_left before) (take used order))
  pub gone : (slots : List Stored) →
      gone_at slots new kept (used - kept) ≡ filter expires (neighbors_at slots (ticks_left before) (take used order))
  pub timed : IsTimed after (take kept new)
  pub moved : IsPermutation order new
  pub fewer : kept ≤ used
