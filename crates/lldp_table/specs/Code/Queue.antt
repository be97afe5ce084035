-- A queue of the slots in use, in the order in which their neighbors expire. Each slot has a gap:
-- its remaining ticks minus those of the slot before it.
use Rattle.std.specs.Prelude.{◌≡◌, ℕ, ◌+◌, ◌-◌, ◌<◌, ◌^◌, Bool, false, if◌then◌else◌, ◌==◌, nat_le, nat_eq, List, [], ◌∷◌, length, map, slice_index, Option, Some, None}
use Rattle.std.specs.List.{list_any, sum_by, AllByRecursion, IsDistinct}
use Rattle.lldp_table.specs.declared.limits.TheConstants.{MOST_NEIGHBORS}

-- a slot in the queue, and its gap
pub record Due : Type 0 where
  pub slot : ℕ
  pub gap : ℕ

abbrev pub due : ℕ → ℕ → Due
due slot gap = record { slot = slot; gap = gap }

abbrev pub slots_of : List Due → List ℕ
slots_of queue = map (λ (e : Due). e.slot) queue

abbrev pub holds : ℕ → List Due → Bool
holds slot queue = list_any (λ (e : Due). e.slot == slot) queue

-- the remaining ticks of a slot: the sum of the gaps up to its own
abbrev pub ticks_left : List Due → ℕ → ℕ
ticks_left [] slot = 0
ticks_left (e ∷ queue) slot = if e.slot == slot then e.gap else e.gap + ticks_left queue slot

-- the queue with n subtracted from the first gap
abbrev pub less_first : ℕ → List Due → List Due
less_first n [] = []
less_first n (e ∷ queue) = due e.slot (e.gap - n) ∷ queue

-- the queue with n added to the first gap
abbrev pub add_first : ℕ → List Due → List Due
add_first n [] = []
add_first n (e ∷ queue) = due e.slot (n + e.gap) ∷ queue

-- the queue with this slot in front; its ticks are subtracted from the gap of the slot after it
abbrev pub put : ℕ → ℕ → List Due → List Due
put slot left queue = due slot left ∷ less_first left queue

-- the queue with this slot inserted after those that expire no later
abbrev pub enter : ℕ → ℕ → List Due → List Due
enter slot left [] = put slot left []
enter slot left (e ∷ queue) =
    if nat_le e.gap left then e ∷ enter slot (left - e.gap) queue else put slot left (e ∷ queue)

-- the queue without this slot; its gap is added to that of the slot after it
abbrev pub leave : ℕ → List Due → List Due
leave slot [] = []
leave slot (e ∷ queue) = if e.slot == slot then add_first e.gap queue else e ∷ leave slot queue

-- the first slot has no ticks left
abbrev pub is_spent : List Due → Bool
is_spent [] = false
is_spent (e ∷ queue) = e.gap == 0

-- the gap of the first slot, which is its remaining ticks
abbrev pub first_gap : List Due → Option ℕ
first_gap [] = None
first_gap (e ∷ queue) = Some e.gap

-- the queue is empty, or its first slot, and so every slot, has ticks left
abbrev pub IsRunning : List Due → Type 0
IsRunning queue = is_spent queue ≡ false

-- the sum of all gaps, which is the remaining ticks of the last slot
abbrev pub total : List Due → ℕ
total queue = sum_by (λ (e : Due). e.gap) queue

-- the queue of these slots, with the gaps stored in `times`
abbrev pub dues : List ℕ → List ℕ → List Due
dues times slots = map (λ i. due i (slice_index times i)) slots

-- the invariant of a queue: no slot is in it twice, and the sum of the gaps fits in 16 bits
pub record IsQueue (times slots : List ℕ) : Type 0 where
  pub all : length times ≡ MOST_NEIGHBORS
  pub within : AllByRecursion (λ i. i < MOST_NEIGHBORS) slots
  pub distinct : IsDistinct nat_eq slots
  pub fits : total (dues times slots) < 2 ^ 16

-- the same invariant, and `last` is the remaining ticks of the last slot
pub record IsQueueTo (times slots : List ℕ) (last : ℕ) : Type 0 where
  pub queue : IsQueue times slots
  pub last_is : last ≡ total (dues times slots)

-- the queue has exactly these slots, each once
pub record IsQueued (queue : List Due) (used : List ℕ) : Type 0 where
  pub same : (i : ℕ) → holds i queue ≡ list_any (nat_eq i) used
  pub count : length queue ≡ length used
  pub distinct : IsDistinct nat_eq (slots_of queue)

-- the queue of a table has the slots in use, each with ticks left
pub record IsTimed (queue : List Due) (used : List ℕ) : Type 0 where
  pub queued : IsQueued queue used
  pub running : IsRunning queue
