-- Which neighbors are live, in which order, and whether there are too many. These definitions split
-- a list of events into a later part, in front, and an earlier part.
use Rattle.std.specs.Prelude.{◌≡◌, ℕ, ◌+◌, ◌<◌, Bool, false, List, ◌∷◌, ◌++◌, length, IsTrue}
use Rattle.std.specs.List.{AllByRecursion, list_any}
use Rattle.lldp_pdu.specs.Msap.{MsapId}
use Rattle.lldp_table.specs.Msap.{same_msap}
use Rattle.lldp_table.specs.declared.learned.Learned.{Learned}
use Rattle.lldp_table.specs.declared.learned.Learned.TheVariants.{New, Dropped}
use Rattle.lldp_table.specs.Events.{TableEvent, learned, Neighbor, neighbors, limit_after, is_purge, is_stored, decides_on, ticks}

-- The neighbor has the last stored frame of its MSAP identifier, which has not expired: no later
-- event stored another, forgot the identifier or purged the table. The ticks since that frame plus
-- the remaining ticks, which are at least 1, are the TTL.
pub record IsLastStored (events : List TableEvent) (neighbor : Neighbor) : Type 0 where
  pub later : List TableEvent
  pub answer : Learned
  pub earlier : List TableEvent
  pub split : events ≡ later ++ learned neighbor.msap neighbor.ttl neighbor.octets answer ∷ earlier
  pub stored : IsTrue (is_stored answer)
  pub last : AllByRecursion (λ event. decides_on neighbor.msap event ≡ false) later
  pub left : ticks later + neighbor.left ≡ neighbor.ttl
  pub lives : 0 < neighbor.left

-- a neighbor with this MSAP identifier is live
abbrev pub IsLive : List TableEvent → MsapId → Type 0
IsLive events name = (neighbor : Neighbor) × (neighbor.msap ≡ name) × IsLastStored events neighbor

-- the number of live neighbors is below the current limit
abbrev pub HasRoom : ℕ → List TableEvent → Type 0
HasRoom opened events = length (neighbors events) < limit_after opened events

-- the event added a neighbor with this MSAP identifier
abbrev pub makes_new : MsapId → TableEvent → Bool
makes_new name (learned other ttl octets New) = same_msap other name
makes_new name _ = false

-- `one` was last added before `other`: for some split of the events, `one` was added in the earlier
-- part, and in the later part `other` was added and `one` was not.
pub record IsNewBefore (events : List TableEvent) (one other : Neighbor) : Type 0 where
  pub later : List TableEvent
  pub earlier : List TableEvent
  pub split : events ≡ later ++ earlier
  pub one_earlier : IsTrue (list_any (makes_new one.msap) earlier)
  pub other_later : IsTrue (list_any (makes_new other.msap) later)
  pub one_not_later : list_any (makes_new one.msap) later ≡ false

-- A frame was dropped, the table was not purged since, and this many ticks of its TTL are left.
pub record WasDropped (events : List TableEvent) (left : ℕ) : Type 0 where
  pub later : List TableEvent
  pub msap : MsapId
  pub ttl : ℕ
  pub octets : List ℕ
  pub earlier : List TableEvent
  pub split : events ≡ later ++ learned msap ttl octets Dropped ∷ earlier
  pub unpurged : AllByRecursion (λ event. is_purge event ≡ false) later
  pub counts : ticks later + left ≡ ttl
