-- The events of one port since it was opened, newest first.
use Rattle.std.specs.Prelude.{ℕ, Bool, true, false, List}
use Rattle.lldp_transmit.specs.declared.event.Cause.{Cause}
use Rattle.lldp_transmit.specs.declared.event.Cause.TheVariants.{Tick, Change, Neighbor, Down}

-- the settings that a port is opened with
pub record Settings : Type 0 where
  pub credit_max : ℕ  -- txCreditMax
  pub fast_init : ℕ  -- txFastInit
  pub reinit : ℕ  -- reinitDelay, in ticks
  pub allowed : Bool  -- whether it may transmit from the start

-- an event, with the tx-interval (msgTxInterval) that is in force after it
pub record Event : Type 0 where
  pub cause : Cause
  pub interval : ℕ

abbrev pub settings : ℕ → ℕ → ℕ → Bool → Settings
settings credit_max fast_init reinit allowed = record {
  credit_max = credit_max;
  fast_init = fast_init;
  reinit = reinit;
  allowed = allowed;
}

abbrev pub event : Cause → ℕ → Event
event cause interval = record { cause = cause; interval = interval }

-- all events so far, the newest first; empty for a port just opened
abbrev pub History : Type 0
History = List Event

-- true for a tick: one second has passed
abbrev pub is_tick : Cause → Bool
is_tick Tick = true
is_tick _ = false

-- true for a local change (localChange)
abbrev pub is_change : Cause → Bool
is_change Change = true
is_change _ = false

-- true for a new neighbor (newNeighbor)
abbrev pub is_neighbor : Cause → Bool
is_neighbor Neighbor = true
is_neighbor _ = false

-- true if the link went down
abbrev pub is_down : Cause → Bool
is_down Down = true
is_down _ = false
