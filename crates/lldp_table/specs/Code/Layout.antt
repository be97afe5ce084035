-- How the code stores a table: slots that never move, the order of their indices, and their times.
use Rattle.std.specs.Prelude.{◌≡◌, ℕ, ◌+◌, ◌<◌, ◌≤◌, if◌then◌else◌, ◌==◌, List, [], ◌∷◌, ◌++◌, length, map, take, drop, slice_index_or, nat_eq}
use Rattle.std.specs.List.{IsDistinct, AllByRecursion}
use Rattle.lldp_pdu.specs.Msap.{MsapId}
use Rattle.lldp_pdu.specs.Lldpdu.{msap_of}
use Rattle.lldp_table.specs.Events.{Neighbor}
use Rattle.lldp_table.specs.Contents.{Contents, IsHeld, IsSound}
use Rattle.lldp_table.specs.declared.limits.TheConstants.{MOST_NEIGHBORS}
use Rattle.lldp_table.specs.Code.Stored.{Stored}
use Rattle.lldp_table.specs.Code.Queue.{Due, ticks_left, IsTimed}

-- a slot that stores nothing
abbrev pub blank : Stored
blank = record { octets = []; ttl = 0 }

-- the octets in the slot with this index, and the MSAP identifier in them
abbrev pub octets_at : List Stored → ℕ → List ℕ
octets_at slots i = (slice_index_or slots i blank).octets

abbrev pub msap_at : List Stored → ℕ → MsapId
msap_at slots i = msap_of (octets_at slots i)

-- the neighbor whose frame a slot stores, with this many ticks left
abbrev pub neighbor_of : Stored → ℕ → Neighbor
neighbor_of slot left = record { msap = msap_of slot.octets; octets = slot.octets; ttl = slot.ttl; left = left }

-- the neighbor in the slot with this index, given the remaining ticks of each slot
abbrev pub neighbor_at : List Stored → (ℕ → ℕ) → ℕ → Neighbor
neighbor_at slots left i = neighbor_of (slice_index_or slots i blank) (left i)

-- the neighbors in these slots
abbrev pub neighbors_at : List Stored → (ℕ → ℕ) → List ℕ → List Neighbor
neighbors_at slots left indices = map (neighbor_at slots left) indices

-- Each index is within the slots and the stored times, and its slot holds a valid neighbor.
pub record AreEntries (slots : List Stored) (left : ℕ → ℕ) (indices : List ℕ) : Type 0 where
  pub written : AllByRecursion (λ i. i < length slots) indices
  pub within : AllByRecursion (λ i. i < MOST_NEIGHBORS) indices
  pub held : AllByRecursion IsHeld (neighbors_at slots left indices)

-- the list with x added at the end if it has n items, and otherwise unchanged
abbrev pub with_next : {X : Type 0} → ℕ → X → List X → List X
with_next n x xs = if length xs == n then xs ++ x ∷ [] else xs

-- the order has each slot's index exactly once
pub record IsOrder (size : ℕ) (order : List ℕ) : Type 0 where
  pub all : length order ≡ size
  pub within : AllByRecursion (λ i. i < size) order
  pub distinct : IsDistinct nat_eq order

-- The slots of the neighbors that aged out stand in the order behind those in use. Each neighbor is as
-- it was held, with one tick left.
abbrev pub gone_at : List Stored → List ℕ → ℕ → ℕ → List Neighbor
gone_at slots order used gone = neighbors_at slots (λ i. 1) (take gone (drop used order))

-- the contents of a table, from its parts
abbrev pub contents_of : ℕ → List Stored → (ℕ → ℕ) → List ℕ → ℕ → ℕ → ℕ → ℕ → Contents
contents_of capacity slots left order used gone limit too_many = record {
  capacity = capacity;
  limit = limit;
  neighbors = neighbors_at slots left (take used order);
  gone = gone_at slots order used gone;
  too_many_left = too_many;
}

-- the invariant of a table's parts other than the queue
pub record IsLaidOut (capacity : ℕ) (slots : List Stored) (left : ℕ → ℕ) (order : List ℕ) (used gone limit too_many : ℕ) :
    Type 0 where
  pub indices : IsOrder (length slots) order
  pub written : length slots ≤ capacity
  pub fits : used + gone ≤ length slots
  pub held : used ≤ limit
  pub sound : IsSound (contents_of capacity slots left order used gone limit too_many)

-- the invariant of a table's parts, including the queue
pub record IsTable (capacity : ℕ) (slots : List Stored) (queue : List Due) (order : List ℕ) (used gone limit too_many : ℕ) :
    Type 0 where
  pub laid : IsLaidOut capacity slots (ticks_left queue) order used gone limit too_many
  pub timed : IsTimed queue (take used order)
