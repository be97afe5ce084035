-- The tags of the slots, which decide most comparisons of MSAP identifiers.
use Rattle.std.specs.Prelude.{◌≡◌, ℕ, ◌<◌, List, length, slice_index}
use Rattle.lldp_table.specs.declared.limits.TheConstants.{MOST_NEIGHBORS}
use Rattle.lldp_table.specs.Code.Stored.{Stored, tag_of}
use Rattle.lldp_table.specs.Code.Queue.{Due}
use Rattle.lldp_table.specs.Code.Layout.{msap_at, IsTable}

-- each slot has the tag of the MSAP identifier in it
pub record IsTagged (tags : List ℕ) (slots : List Stored) : Type 0 where
  pub all : length tags ≡ MOST_NEIGHBORS
  pub each : (i : ℕ) → i < length slots → slice_index tags i ≡ tag_of (msap_at slots i)

-- the invariant of all parts of a table
pub record IsTaggedTable (capacity : ℕ) (slots : List Stored) (queue : List Due) (order : List ℕ) (used gone limit too_many : ℕ) (tags : List ℕ) :
    Type 0 where
  pub table : IsTable capacity slots queue order used gone limit too_many
  pub tagged : IsTagged tags slots
