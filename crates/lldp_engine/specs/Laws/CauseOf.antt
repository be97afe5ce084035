-- What an event means to the transmit machine of a port.
use Rattle.std.specs.Prelude.{◌≡◌, ℕ, ◌∷◌}
use Rattle.lldp_transmit.specs.declared.event.Cause.{Cause}
use Rattle.lldp_transmit.specs.History.{History, event as caused}
use Rattle.lldp_engine.specs.Event.{Event, set, interval}
use Rattle.lldp_engine.specs.Laws.LastSet.{IsLastSet}
use Rattle.lldp_engine.specs.Past.{Past, with_event, past_of}
use Rattle.lldp_engine.specs.Ranges.{first_interval}
use Rattle.lldp_engine.specs.Port.Past.{causes_after}

-- Returns what each event so far meant to the transmit machine of port i.
abbrev pub causes_at : Past → ℕ → History
causes_at past i = causes_after past.options (past_of past i)

-- The event means `cause` to the transmit machine of port i. The tx-interval is `seconds`: the last
-- that a command set, this event included, or else 30.
pub record IsFor (past : Past) (event : Event) (i : ℕ) (cause : Cause) : Type 0 where
  pub seconds : ℕ
  pub is : causes_at (with_event past event) i ≡ caused cause seconds ∷ causes_at past i
  pub last : IsLastSet (λ given. set (interval given)) first_interval (event ∷ past.events) seconds
