-- The contents of a table, and the invariant of every table.
use Rattle.std.specs.Prelude.{◌≡◌, ℕ, ◌<◌, ◌≤◌, min, Bool, List, [], ◌∷◌, length, map, Option, Some, None}
use Rattle.std.specs.List.{list_any, IsDistinct, AllByRecursion}
use Rattle.lldp_pdu.specs.Tlv.{AreOctets}
use Rattle.lldp_pdu.specs.Msap.{MsapId, IsIdentifier}
use Rattle.lldp_pdu.specs.Lldpdu.{extent, ttl_of, msap_of}
use Rattle.lldp_pdu.specs.Fault.{fault_of}
use Rattle.lldp_table.specs.Msap.{same_msap}
use Rattle.lldp_table.specs.Events.{Neighbor}
use Rattle.lldp_pdu.specs.Range.{most_octets}
use Rattle.lldp_table.specs.Ranges.{most_neighbors}

-- a table: the limit given at opening, the current limit, the neighbors in the order in which they
-- were last added, those that aged out at the last call if it was a tick, and the remaining ticks of
-- the too-many timer (tooManyNeighborsTimer)
pub record Contents : Type 0 where
  pub capacity : ℕ
  pub limit : ℕ
  pub neighbors : List Neighbor
  pub gone : List Neighbor
  pub too_many_left : ℕ

-- the neighbor has this MSAP identifier
abbrev pub is_named : MsapId → Neighbor → Bool
is_named name neighbor = same_msap name neighbor.msap

-- a neighbor with this MSAP identifier is held
abbrev pub holds_name : Contents → MsapId → Bool
holds_name table name = list_any (is_named name) table.neighbors

-- An extent that can be stored: at most 1,500 octets that are a sound LLDPDU with this MSAP
-- identifier and this TTL, above 0, and that equal their own extent.
pub record IsExtent (msap : MsapId) (ttl : ℕ) (octets : List ℕ) : Type 0 where
  pub short : length octets ≤ most_octets
  pub lives : 0 < ttl
  pub chassis : IsIdentifier msap.chassis
  pub port : IsIdentifier msap.port
  pub are_octets : AreOctets octets
  pub sound : fault_of octets ≡ None
  pub msap_is : msap_of octets ≡ msap
  pub ttl_is : ttl_of octets ≡ ttl
  pub extent_is : extent octets ≡ octets

-- a neighbor as a table holds it: it has at least one tick left, and at most as many as its TTL
pub record IsHeld (neighbor : Neighbor) : Type 0 where
  pub extent : IsExtent neighbor.msap neighbor.ttl neighbor.octets
  pub lives : 0 < neighbor.left
  pub left : neighbor.left ≤ neighbor.ttl

-- the smaller of two numbers of ticks; None means that there is no such number
abbrev pub sooner : Option ℕ → Option ℕ → Option ℕ
sooner None b = b
sooner (Some a) None = Some a
sooner (Some a) (Some b) = Some (min a b)

-- ticks until the first of these neighbors ages out
abbrev pub least_left : List Neighbor → Option ℕ
least_left [] = None
least_left (neighbor ∷ neighbors) = sooner (Some neighbor.left) (least_left neighbors)

-- the MSAP identifiers of neighbors
abbrev pub names_of : List Neighbor → List MsapId
names_of neighbors = map (λ neighbor. neighbor.msap) neighbors

-- The capacity is at most 128 and the limit is from 1 to the capacity. At most as many neighbors as
-- the limit are held, each as `IsHeld` says, and no two have the same MSAP identifier. Those that aged
-- out are as they were held.
pub record IsSound (table : Contents) : Type 0 where
  pub most : table.capacity ≤ most_neighbors
  pub room : table.limit ≤ table.capacity
  pub least : 0 < table.limit
  pub few : length table.neighbors ≤ table.limit
  pub held : AllByRecursion IsHeld table.neighbors
  pub distinct : IsDistinct same_msap (names_of table.neighbors)
  pub left : AllByRecursion IsHeld table.gone
