-- The calls that were made on a table, and which neighbors are live after them (IEEE 802.1AB-2009,
-- 9.2.7.7). The newest call is first in every list, so the elements after a call are earlier calls.
use Rattle.std.specs.Prelude.{ℕ, suc, ◌-◌, Bool, true, false, not, ◌&&◌, if◌then◌else◌, nat_lt, max, List, [], ◌∷◌, ◌++◌, length, filter, find, filter_map, Option, Some, None, is_some, option_and_then, count_by, is_none}
use Rattle.lldp_pdu.specs.Msap.{MsapId}
use Rattle.lldp_table.specs.Msap.{same_msap}
use Rattle.lldp_table.specs.declared.learned.Learned.{Learned}
use Rattle.lldp_table.specs.declared.learned.Learned.TheVariants.{New, Refreshed, Dropped}

-- a call on a table; a learned frame is given by its MSAP identifier, its TTL and its extent
pub data Call : Type 0 where
  learn : (msap : MsapId) (ttl : ℕ) (octets : List ℕ) → Call
  forget : (msap : MsapId) → Call
  purge : Call
  tick : Call
  set_limit : (limit : ℕ) → Call

-- a call that was made; for a `learn`, with its result
pub data TableEvent : Type 0 where
  learned : (msap : MsapId) (ttl : ℕ) (octets : List ℕ) (answer : Learned) → TableEvent
  forgot : (msap : MsapId) → TableEvent
  purged : TableEvent
  ticked : TableEvent
  limit_set : (limit : ℕ) → TableEvent

-- a live neighbor: MSAP identifier, octets and TTL of its last stored frame, and remaining ticks
pub record Neighbor : Type 0 where
  pub msap : MsapId
  pub octets : List ℕ
  pub ttl : ℕ
  pub left : ℕ

-- ## Kinds of events, and the events since the last of a kind

-- the event is a tick
abbrev pub is_tick : TableEvent → Bool
is_tick ticked = true
is_tick _ = false

-- the event is a purge
abbrev pub is_purge : TableEvent → Bool
is_purge purged = true
is_purge _ = false

-- new and refreshed frames are stored, dropped ones are not
abbrev pub is_stored : Learned → Bool
is_stored Dropped = false
is_stored _ = true

-- the number of ticks among these events
abbrev pub ticks : List TableEvent → ℕ
ticks [] = 0
ticks (event ∷ past) = if is_tick event then suc (ticks past) else ticks past

-- the events after the last one that passes the test
abbrev pub since : (TableEvent → Bool) → List TableEvent → List TableEvent
since test [] = []
since test (event ∷ past) = if test event then [] else event ∷ since test past

-- the event stored a frame with this MSAP identifier, forgot the identifier, or purged the table
abbrev pub decides_on : MsapId → TableEvent → Bool
decides_on name (learned other ttl octets answer) = is_stored answer && same_msap other name
decides_on name (forgot other) = same_msap other name
decides_on name purged = true
decides_on name _ = false

-- ## Which neighbors are live

-- the neighbor of a learned frame n ticks later; None after its TTL, and for any other event
abbrev pub live_after : ℕ → TableEvent → Option Neighbor
live_after n (learned msap ttl octets answer) =
    if nat_lt n ttl then Some (record { msap = msap; octets = octets; ttl = ttl; left = ttl - n }) else None
live_after n _ = None

-- The neighbor with this MSAP identifier, if it is live: since its last stored frame, the
-- identifier was not forgotten, the table was not purged, and fewer ticks than the TTL have passed.
unfoldable pub live : MsapId → List TableEvent → Option Neighbor
live name events = option_and_then (live_after (ticks (since (decides_on name) events))) (find (decides_on name) events)

-- the MSAP identifiers after an event: adding a neighbor moves its identifier to the end
abbrev pub arrive : TableEvent → List MsapId → List MsapId
arrive (learned name ttl octets New) names = filter (λ other. not (same_msap name other)) names ++ name ∷ []
arrive _ names = names

-- the MSAP identifiers that were ever added, each once, in the order in which they were last added
abbrev pub arrivals : List TableEvent → List MsapId
arrivals [] = []
arrivals (event ∷ past) = arrive event (arrivals past)

-- the live neighbors, in the order in which each was last added
unfoldable pub neighbors : List TableEvent → List Neighbor
neighbors events = filter_map (λ name. live name events) (arrivals events)

-- ## Which frames are stored

-- the limit after these events: the last one that was set, or the limit given at opening
abbrev pub limit_after : ℕ → List TableEvent → ℕ
limit_after opened [] = opened
limit_after opened (limit_set limit ∷ past) = limit
limit_after opened (event ∷ past) = limit_after opened past

-- The result of `learn`: Refreshed if this MSAP identifier is live; otherwise New if the number of
-- live neighbors is below the current limit, and else Dropped.
abbrev pub answer : ℕ → MsapId → List TableEvent → Learned
answer opened name past =
    if is_some (live name past) then Refreshed
    else (if nat_lt (length (neighbors past)) (limit_after opened past) then New else Dropped)

-- the event of a call that is made after these events
abbrev pub event_of : ℕ → Call → List TableEvent → TableEvent
event_of opened (learn msap ttl octets) past = learned msap ttl octets (answer opened msap past)
event_of opened (forget msap) past = forgot msap
event_of opened purge past = purged
event_of opened tick past = ticked
event_of opened (set_limit limit) past = limit_set limit

-- the calls with their results, on a table that was opened with this limit
unfoldable pub events_of : ℕ → List Call → List TableEvent
events_of opened [] = []
events_of opened (call ∷ calls) = let past = events_of opened calls in event_of opened call past ∷ past

-- the number of neighbors that are live after these events and no longer live one tick later
abbrev pub aged_out : List TableEvent → ℕ
aged_out past = count_by (λ (neighbor : Neighbor). is_none (live neighbor.msap (ticked ∷ past))) (neighbors past)

-- the neighbors that aged out at the last of these events: if it is a tick, those that were live before
-- it and no longer are, in the order in which each was last added; otherwise none
abbrev pub gone : List TableEvent → List Neighbor
gone (ticked ∷ past) = filter (λ (neighbor : Neighbor). is_none (live neighbor.msap (ticked ∷ past))) (neighbors past)
gone _ = []

-- ## Too many neighbors

-- the most remaining ticks of any dropped frame, n ticks after the last of these events
abbrev pub most_left : ℕ → List TableEvent → ℕ
most_left n [] = 0
most_left n (learned msap ttl octets Dropped ∷ past) = max (ttl - n) (most_left n past)
most_left n (ticked ∷ past) = most_left (suc n) past
most_left n (event ∷ past) = most_left n past

-- The too-many timer: the most remaining ticks of any frame dropped since the last purge.
unfoldable pub too_many_left : List TableEvent → ℕ
too_many_left events = most_left 0 (since is_purge events)
