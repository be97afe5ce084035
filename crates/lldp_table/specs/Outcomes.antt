-- What storing a frame did, and the neighbor's octets before and after it.
use Rattle.std.specs.Prelude.{ℕ, if◌then◌else◌, nat_lt, List, length, find, Option, Some, None}
use Rattle.std.specs.Option.{option_map}
use Rattle.std.specs.Str.{bytes_eq}
use Rattle.lldp_pdu.specs.Msap.{MsapId}
use Rattle.lldp_table.specs.declared.learned.Learned.{Learned}
use Rattle.lldp_table.specs.declared.learned.Learned.TheVariants.{New, Refreshed, Dropped}
use Rattle.lldp_table.specs.declared.learned.Outcome.{Outcome}
use Rattle.lldp_table.specs.declared.learned.Outcome.TheVariants.{Added, Changed, Repeated, NoRoom}
use Rattle.lldp_table.specs.Contents.{Contents, is_named}

-- the result of `learn` for a frame with this result of `store`
abbrev pub learned_of : Outcome → Learned
learned_of Added = New
learned_of Changed = Refreshed
learned_of Repeated = Refreshed
learned_of NoRoom = Dropped

-- the stored octets of the neighbor with this MSAP identifier, if the table has that neighbor
abbrev pub octets_held : Contents → MsapId → Option (List ℕ)
octets_held table name = option_map (λ neighbor. neighbor.octets) (find (is_named name) table.neighbors)

-- what a frame does to its neighbor, given the octets held before it, and those of the frame
abbrev pub outcome_for : Contents → Option (List ℕ) → List ℕ → Outcome
outcome_for table (Some held) octets = if bytes_eq held octets then Repeated else Changed
outcome_for table None octets = if nat_lt (length table.neighbors) table.limit then Added else NoRoom

-- the result of `store`, computed from the table before it
abbrev pub store_outcome : Contents → MsapId → List ℕ → Outcome
store_outcome table name octets = outcome_for table (octets_held table name) octets

-- what a frame did to its neighbor, given the neighbor's octets before and after it
abbrev pub outcome_between : Option (List ℕ) → Option (List ℕ) → Outcome
outcome_between before None = NoRoom
outcome_between None (Some after) = Added
outcome_between (Some before) (Some after) = if bytes_eq before after then Repeated else Changed
