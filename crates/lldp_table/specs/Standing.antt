-- The contents of a table after a list of calls.
use Rattle.std.specs.Prelude.{◌≡◌, ℕ, ◌<◌, ◌≤◌, List, [], ◌∷◌, length}
use Rattle.lldp_table.specs.Events.{Call, learn, forget, purge, tick, set_limit, events_of, neighbors, gone, too_many_left, limit_after}
use Rattle.lldp_table.specs.Contents.{Contents, IsExtent}
use Rattle.lldp_table.specs.Ranges.{most_neighbors}

-- the contents that the definitions give for a table after these calls: the limits, the live
-- neighbors in the order in which they were last added, those that aged out, and the too-many timer
abbrev pub table_of : ℕ → List Call → Contents
table_of opened calls =
    let past = events_of opened calls in
    record {
      capacity = opened;
      limit = limit_after opened past;
      neighbors = neighbors past;
      gone = gone past;
      too_many_left = too_many_left past;
    }

-- a limit that can be set: from 1 to the capacity, and at least the number of neighbors held
pub record IsNewLimit (table : Contents) (limit : ℕ) : Type 0 where
  pub least : 0 < limit
  pub most : limit ≤ table.capacity
  pub held : length table.neighbors ≤ limit

-- the call is possible: `learn` needs a valid extent, and `set_limit` a limit that can be set
abbrev pub IsPossible : Contents → Call → Type 0
IsPossible table (learn msap ttl octets) = IsExtent msap ttl octets
IsPossible table (forget msap) = Unit {0}
IsPossible table purge = Unit {0}
IsPossible table tick = Unit {0}
IsPossible table (set_limit limit) = IsNewLimit table limit

-- each call of the list is possible after the calls before it
abbrev pub ArePossible : ℕ → List Call → Type 0
ArePossible opened [] = Unit {0}
ArePossible opened (call ∷ calls) = IsPossible (table_of opened calls) call × ArePossible opened calls

-- The table matches a limit given at opening, from 1 to 128, and a list of possible calls, the
-- newest first: its contents are those that the definitions give for this limit and these calls.
pub record Stands (opened : ℕ) (calls : List Call) (table : Contents) : Type 0 where
  pub least : 0 < opened
  pub most : opened ≤ most_neighbors
  pub allowed : ArePossible opened calls
  pub is : table ≡ table_of opened calls

-- P holds for every opening limit and list of calls that the table matches
abbrev pub ForEachCalls : Contents → (ℕ → List Call → Type 0) → Type 0
ForEachCalls table P = (opened : ℕ) (calls : List Call) → Stands opened calls table → P opened calls
