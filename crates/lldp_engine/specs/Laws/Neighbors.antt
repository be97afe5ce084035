-- The neighbors of a port after a frame and after a tick.
use Rattle.std.specs.Prelude.{◌-◌, not, nat_lt, List, map, filter}
use Rattle.lldp_pdu.specs.Msap.{MsapId}
use Rattle.lldp_table.specs.Msap.{same_msap}
use Rattle.lldp_table.specs.Events.{Neighbor}

-- Returns all neighbors except the one with this MSAP identifier, in their order.
abbrev pub others_than : MsapId → List Neighbor → List Neighbor
others_than name neighbors = filter (λ neighbor. not (same_msap name neighbor.msap)) neighbors

-- Returns the neighbor with one tick less left.
abbrev pub one_less : Neighbor → Neighbor
one_less neighbor = record neighbor { left = neighbor.left - 1 }

-- At a tick each neighbor has one tick less left, and those with none left are removed.
abbrev pub one_tick_older : List Neighbor → List Neighbor
one_tick_older neighbors = filter (λ neighbor. nat_lt 0 neighbor.left) (map one_less neighbors)
