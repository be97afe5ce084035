-- What the ports have sent, for each past, said by positions, and what follows: how much they send.
use Rattle.std.specs.Prelude.{◌≡◌, ◌<◌, ◌↔◌, ℕ, List, ◌∷◌, ◌++◌, length}
use Rattle.lldp_transmit.specs.declared.event.Mark.TheVariants.{Ordinary, Shutdown}
use Rattle.lldp_transmit.specs.Positions.{IsDueAndOpen, StopsAt}
use Rattle.lldp_transmit.specs.Windows.{IsBounded, StopsRarely, IsEarliest}
use Rattle.lldp_engine.specs.Options.{Options}
use Rattle.lldp_engine.specs.Past.{Past, past_of}
use Rattle.lldp_engine.specs.Port.Past.{Happened, settings_of, caused_at, causes_after, mark_after}

-- A port sends an ordinary frame exactly if one is due and the credit window is open: counting this
-- frame, no run of events that ends now has more ordinary frames than txCreditMax plus the ticks
-- after its first event. It sends a shutdown frame exactly if it was active and may no longer send.
pub record SendsExactly (o : Options) (now : Happened) (earlier : List Happened) : Type 0 where
  pub ordinary : (mark_after o (now ∷ earlier) ≡ Ordinary) ↔
      IsDueAndOpen (settings_of o) (causes_after o earlier) (caused_at o now earlier)
  pub shutdown : (mark_after o (now ∷ earlier) ≡ Shutdown) ↔
      StopsAt (settings_of o) (causes_after o earlier) (caused_at o now earlier)

-- At each event so far the port sent exactly what `SendsExactly` says. So no run of events contains
-- more ordinary frames than txCreditMax plus the ticks after its first event, or more stops than one
-- plus one for each reinitDelay ticks in it. No other choice of events to send at, each with a frame
-- due and the window open, has sent more frames up to any event.
pub record HasSentExactly (o : Options) (past : List Happened) : Type 0 where
  pub exactly : (later earlier : List Happened) (now : Happened) → past ≡ later ++ now ∷ earlier →
      SendsExactly o now earlier
  pub bounded : IsBounded (settings_of o) (causes_after o past)
  pub few_stops : StopsRarely (settings_of o) (causes_after o past)
  pub earliest : (later earlier : List Happened) → past ≡ later ++ earlier →
      IsEarliest (settings_of o) (causes_after o earlier)

-- Each port has sent exactly that.
pub record HaveSentExactly (past : Past) : Type 0 where
  pub ports : (i : ℕ) → i < length past.options.names → HasSentExactly past.options (past_of past i)
