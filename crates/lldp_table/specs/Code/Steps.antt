-- The effect of each call on the contents of a table, and the result of `learn`. `Standing` relates
-- these definitions to lists of calls.
use Rattle.std.specs.Prelude.{ℕ, ◌-◌, Bool, not, if◌then◌else◌, nat_lt, max, List, [], ◌∷◌, ◌++◌, length, filter, map, filter_map, Option, Some, None}
use Rattle.lldp_pdu.specs.Msap.{MsapId}
use Rattle.lldp_table.specs.Events.{Neighbor, Call, learn, forget, purge, tick, set_limit}
use Rattle.lldp_table.specs.Contents.{Contents, is_named, holds_name}
use Rattle.lldp_table.specs.declared.learned.Learned.{Learned}
use Rattle.lldp_table.specs.declared.learned.Learned.TheVariants.{New, Refreshed, Dropped}

-- the result of `learn`
abbrev pub learn_answer : Contents → MsapId → Learned
learn_answer table name =
    if holds_name table name then Refreshed else (if nat_lt (length table.neighbors) table.limit then New else Dropped)

-- the neighbor of a frame that has just arrived
abbrev pub fresh : MsapId → ℕ → List ℕ → Neighbor
fresh name ttl octets = record { msap = name; octets = octets; ttl = ttl; left = ttl }

-- the neighbor, with the new frame if it has this MSAP identifier
abbrev pub refreshed : MsapId → ℕ → List ℕ → Neighbor → Neighbor
refreshed name ttl octets neighbor = if is_named name neighbor then fresh name ttl octets else neighbor

-- A new neighbor is added after the others, and a known one stays in its place. For a dropped
-- frame, the too-many timer runs at least as long as the frame's TTL.
abbrev pub learned_as : Learned → Contents → MsapId → ℕ → List ℕ → Contents
learned_as New table name ttl octets =
    record table { neighbors = table.neighbors ++ fresh name ttl octets ∷ []; gone = [] }
learned_as Refreshed table name ttl octets =
    record table { neighbors = map (refreshed name ttl octets) table.neighbors; gone = [] }
learned_as Dropped table name ttl octets =
    record table { gone = []; too_many_left = max table.too_many_left ttl }

-- the table after `learn`
abbrev pub after_learn : Contents → MsapId → ℕ → List ℕ → Contents
after_learn table name ttl octets = learned_as (learn_answer table name) table name ttl octets

-- ## The other calls

-- the neighbor with this MSAP identifier is removed, and the others keep their order
abbrev pub after_forget : Contents → MsapId → Contents
after_forget table name =
    record table { neighbors = filter (λ neighbor. not (is_named name neighbor)) table.neighbors; gone = [] }

-- no neighbor is left, and the too-many timer has ended
abbrev pub after_purge : Contents → Contents
after_purge table = record table { neighbors = []; gone = []; too_many_left = 0 }

-- the neighbor after a tick, or None if it then has no ticks left
abbrev pub aged : Neighbor → Option Neighbor
aged neighbor =
    if nat_lt 1 neighbor.left then Some (record neighbor { left = neighbor.left - 1 }) else None

-- the neighbor has no ticks left after a tick
abbrev pub expires : Neighbor → Bool
expires neighbor = not (nat_lt 1 neighbor.left)

-- neighbors and the too-many timer have one tick less; neighbors with none left have aged out
abbrev pub after_tick : Contents → Contents
after_tick table =
    record table {
      neighbors = filter_map aged table.neighbors;
      gone = filter expires table.neighbors;
      too_many_left = table.too_many_left - 1;
    }

-- the table with this limit instead of the current one
abbrev pub after_set_limit : Contents → ℕ → Contents
after_set_limit table limit = record table { limit = limit; gone = [] }

-- the table after a call
abbrev pub table_after : Contents → Call → Contents
table_after table (learn msap ttl octets) = after_learn table msap ttl octets
table_after table (forget msap) = after_forget table msap
table_after table purge = after_purge table
table_after table tick = after_tick table
table_after table (set_limit limit) = after_set_limit table limit

-- an empty table with this limit
abbrev pub newly_opened : ℕ → Contents
newly_opened limit = record { capacity = limit; limit = limit; neighbors = []; gone = []; too_many_left = 0 }
