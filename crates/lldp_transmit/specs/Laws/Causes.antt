-- Whether a port may transmit, whether its link is up, and when it sends, stated by event causes.
use Rattle.std.specs.Prelude.{◌≡◌, ◌⊎◌, Bool, true, false, ◌∷◌}
use Rattle.lldp_transmit.specs.declared.event.Cause.{Cause}
use Rattle.lldp_transmit.specs.declared.event.Cause.TheVariants.{Tick, Change, Neighbor, Stop, Allow, Down, Up}
use Rattle.lldp_transmit.specs.Fronts.{Position}
use Rattle.lldp_transmit.specs.History.{Settings, Event, History}
use Rattle.lldp_transmit.specs.Moments.{moments}
use Rattle.lldp_transmit.specs.Positions.{HasStarted}

-- some event of the history has this cause
abbrev pub HasCause : Cause → History → Type 0
HasCause cause h = (p : Position h) × (p.there.cause ≡ cause)

-- A state, turned on by `gives` and off by `takes`, is on: each `takes` has a later `gives`, and if
-- the state was off at first, there is at least one `gives`.
pub record IsGiven (gives takes : Cause) (at_first : Bool) (h : History) : Type 0 where
  pub since : (p : Position h) → p.there.cause ≡ takes → HasCause gives p.after
  pub once : at_first ≡ false → HasCause gives h

-- May transmit: each Stop has a later Allow, and if not allowed at first, there was an Allow.
abbrev pub MayTransmit : Settings → History → Type 0
MayTransmit s h = IsGiven Allow Stop s.allowed h

-- The link is up: each Down has a later Up.
abbrev pub IsLinked : History → Type 0
IsLinked h = IsGiven Up Down true h

-- at the newest event an ordinary frame can be sent: the event is a tick, a local change or a new
-- neighbor, and the port is active, may transmit and has its link up
pub record CanSend (s : Settings) (e : Event) (past : History) : Type 0 where
  pub cause : (e.cause ≡ Tick) ⊎ ((e.cause ≡ Change) ⊎ (e.cause ≡ Neighbor))
  pub active : HasStarted (moments s (e ∷ past))
  pub allowed : MayTransmit s (e ∷ past)
  pub up : IsLinked (e ∷ past)

-- at the newest event a shutdown frame is sent: the event is a Stop, and the port was active
pub record CanStop (s : Settings) (e : Event) (past : History) : Type 0 where
  pub cause : e.cause ≡ Stop
  pub active : HasStarted (moments s past)
