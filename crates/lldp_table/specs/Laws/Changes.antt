-- The changes that a call makes in a table, neighbor by neighbor.
use Rattle.std.specs.Prelude.{◌≡◌, ◌≢◌, ℕ, ◌+◌, Bool, true, false, List}
use Rattle.std.specs.List.{Contains}
use Rattle.lldp_pdu.specs.Msap.{MsapId}
use Rattle.lldp_table.specs.Events.{Call, tick, set_limit, Neighbor}
use Rattle.lldp_table.specs.Contents.{Contents}

-- the neighbor as it was one tick earlier, with one more tick left
abbrev pub a_tick_before : Neighbor → Neighbor
a_tick_before neighbor = record neighbor { left = neighbor.left + 1 }

-- the neighbor of a frame that was just stored, with its whole TTL left
abbrev pub just_stored : MsapId → ℕ → List ℕ → Neighbor
just_stored name ttl octets = record { msap = name; octets = octets; ttl = ttl; left = ttl }

-- the call is a tick
abbrev pub is_tick : Call → Bool
is_tick tick = true
is_tick _ = false

-- the call sets a limit
abbrev pub sets_limit : Call → Bool
sets_limit (set_limit limit) = true
sets_limit _ = false

-- a neighbor with this MSAP identifier is held with these octets
abbrev pub HoldsOctets : Contents → MsapId → List ℕ → Type 0
HoldsOctets table name octets =
    (neighbor : Neighbor) × Contains table.neighbors neighbor × (neighbor.msap ≡ name) × (neighbor.octets ≡ octets)

-- a neighbor with this MSAP identifier is held with other octets
abbrev pub HoldsOthers : Contents → MsapId → List ℕ → Type 0
HoldsOthers table name octets =
    (neighbor : Neighbor) × Contains table.neighbors neighbor × (neighbor.msap ≡ name) × (neighbor.octets ≢ octets)
