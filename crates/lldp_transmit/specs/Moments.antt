-- When a port transmits (IEEE 802.1AB-2009, clause 9; the terms credit, signal, burst and distance
-- are this project's). Each event of the history becomes a moment: the event with five labels. The
-- labels depend on earlier moments: on the last moment of some kind, the ticks since then, and the
-- runs that end now.
use Rattle.std.specs.Prelude.{ℕ, ◌+◌, ◌-◌, Bool, true, false, not, ◌&&◌, ◌||◌, ◌==◌, nat_le, nat_lt, if◌then◌else◌, List, [], ◌∷◌}
use Rattle.std.specs.List.{list_any, list_all}
use Rattle.lldp_transmit.specs.declared.event.Cause.{Cause}
use Rattle.lldp_transmit.specs.declared.event.Cause.TheVariants.{Stop, Allow, Down, Up}
use Rattle.lldp_transmit.specs.declared.event.Mark.{Mark}
use Rattle.lldp_transmit.specs.declared.event.Mark.TheVariants.{Quiet, Ordinary, Shutdown}
use Rattle.lldp_transmit.specs.Fronts.{count, since, from_last, up_to_last, runs, after_first}
use Rattle.lldp_transmit.specs.History.{Settings, Event, History, is_tick, is_change, is_neighbor, is_down}

-- an event and its five labels
pub record Moment : Type 0 where
  pub cause : Cause
  pub interval : ℕ
  pub start : Bool  -- the port starts here
  pub stop : Bool  -- it stops here, with a shutdown frame
  pub signal : Bool  -- an ordinary frame is wanted from here on
  pub opening : Bool  -- a burst of fast transmission is opened here
  pub sent : Bool  -- an ordinary frame is sent here

-- ---- counts in a run of moments

-- how many ticks, and so seconds, are in the run
abbrev pub ticks : List Moment → ℕ
ticks ms = count (λ m. is_tick m.cause) ms

-- how many ordinary frames are sent in the run
abbrev pub frames : List Moment → ℕ
frames ms = count (λ m. m.sent) ms

-- ---- the state of the port after these moments

-- A Stop forbids transmitting and an Allow permits it (adminStatus); other events change nothing.
abbrev pub allowed_after : Cause → Bool → Bool
allowed_after Stop before = false
allowed_after Allow before = true
allowed_after _ before = before

-- whether the port may transmit: as the last Stop or Allow says or, without one, as when opened
abbrev pub is_allowed : Settings → List Moment → Bool
is_allowed s [] = s.allowed
is_allowed s (m ∷ past) = allowed_after m.cause (is_allowed s past)

-- The link is down after a Down and up after an Up (portEnabled); other events change nothing.
abbrev pub up_after : Cause → Bool → Bool
up_after Down before = false
up_after Up before = true
up_after _ before = before

-- whether the link is up: as the last Down or Up says; up if there was none
abbrev pub is_up : List Moment → Bool
is_up [] = true
is_up (m ∷ past) = up_after m.cause (is_up past)

-- a stop or the loss of the link: both make the port inactive
abbrev pub ends : Moment → Bool
ends m = m.stop || is_down m.cause

-- whether the port is active: it has started, and has neither stopped nor lost its link since
abbrev pub is_active : List Moment → Bool
is_active ms = list_any (λ m. m.start) (since ends ms)

-- true if reinitDelay ticks, including this one, have passed since the last stop, or without a stop
abbrev pub rested : Settings → List Moment → Bool
rested s past = not (list_any (λ m. m.stop) past) || nat_le s.reinit (1 + ticks (since (λ m. m.stop) past))

-- true if the moment uses a signal of the burst: a signal caused by a new neighbor or by the timer
abbrev pub spends : Moment → Bool
spends m = m.signal && (is_neighbor m.cause || (is_tick m.cause && not m.start))

-- signals left in the burst (txFast): txFastInit less the signals used since the last opening,
-- which itself uses one; 0 if no burst was opened since the start
abbrev pub signals_left : Settings → List Moment → ℕ
signals_left s ms =
    if list_any (λ m. m.opening) (since (λ m. m.start) ms)
    then s.fast_init - count spends (from_last (λ m. m.opening) ms)
    else 0

-- ticks from the newest moment, which is a signal, to the next signal: 1 (msgFastTx) if signals are
-- left, else the tx-interval of the newest moment
abbrev pub distance : Settings → List Moment → ℕ
distance s [] = 0
distance s (m ∷ past) = if nat_lt 0 (signals_left s (m ∷ past)) then 1 else m.interval

-- whether a frame waits: some signal, at the last start or later, has had no ordinary frame yet
abbrev pub is_waiting : List Moment → Bool
is_waiting ms = list_any (λ m. m.signal) (from_last (λ m. m.start) (since (λ m. m.sent) ms))

-- ---- the labels of the next moment

-- Start: at a tick, if the port may transmit, has its link up, is not active, and is rested.
abbrev pub starts : Settings → List Moment → Moment → Bool
starts s past m =
    is_tick m.cause
    && (is_allowed s (m ∷ past) && (is_up (m ∷ past) && (not (is_active past) && rested s past)))

-- Stop: the port stops if it was active and may no longer transmit.
abbrev pub stops : Settings → List Moment → Moment → Bool
stops s past m = is_active past && not (is_allowed s (m ∷ past))

-- The timer (txTTR) ends when the last signal's distance has passed, at a tick without a start.
abbrev pub timer_ends : Settings → List Moment → Moment → Bool
timer_ends s past m =
    is_tick m.cause && (not m.start &&
    (1 + ticks (since (λ m. m.signal) past) == distance s (up_to_last (λ m. m.signal) past)))

-- Signal: on an active port, at a start, a local change, a new neighbor, and when the timer ends.
abbrev pub signals : Settings → List Moment → Moment → Bool
signals s past m =
    is_active (m ∷ past) && (m.start || (is_change m.cause || (is_neighbor m.cause || timer_ends s past m)))

-- Opening: a new neighbor's signal opens a burst if no signals are left.
abbrev pub opens : Settings → List Moment → Moment → Bool
opens s past m = signals s past m && (is_neighbor m.cause && (signals_left s past == 0))

-- Due: the port is active, and a frame waits (the label `sent` of this moment is set afterwards).
abbrev pub due : List Moment → Moment → Bool
due past m = let now = record m { sent = false } ∷ past in is_active now && is_waiting now

-- A run's bound: txCreditMax ordinary frames, plus one for each tick after the first event.
abbrev pub within : Settings → List Moment → Bool
within s run = nat_le (frames run) (s.credit_max + ticks (after_first run))

-- The window is open if, with an ordinary frame now, each run that ends now is within its bound.
abbrev pub open_at : Settings → List Moment → Moment → Bool
open_at s past m = list_all (within s) (runs (record m { sent = true } ∷ past))

-- ---- moments

-- the moment of an event before its labels are set
abbrev pub unlabelled : Event → Moment
unlabelled e = record {
  cause = e.cause;
  interval = e.interval;
  start = false;
  stop = false;
  signal = false;
  opening = false;
  sent = false;
}

-- Sets the labels of activity: whether the port starts or stops at this moment.
abbrev pub with_activity : Settings → List Moment → Moment → Moment
with_activity s past m = record m { start = starts s past m; stop = stops s past m }

-- Sets the labels of signals: whether there is a signal, and whether it opens a burst.
abbrev pub with_signals : Settings → List Moment → Moment → Moment
with_signals s past m = record m { signal = signals s past m; opening = opens s past m }

-- Sets the label of the frame: a frame is sent if one is due and the window is open.
abbrev pub with_frame : Settings → List Moment → Moment → Moment
with_frame s past m = record m { sent = due past m && open_at s past m }

-- The moment of the next event: the labels of activity are set first, then of signals, then `sent`.
unfoldable pub moment : Settings → List Moment → Event → Moment
moment s past e = with_frame s past (with_signals s past (with_activity s past (unlabelled e)))

-- the moments of a history
abbrev pub moments : Settings → History → List Moment
moments s [] = []
moments s (e ∷ past) = let before = moments s past in moment s before e ∷ before

-- the frame sent at a moment: shutdown at a stop, ordinary if `sent`; the two never coincide
abbrev pub mark_of : Moment → Mark
mark_of m = if m.stop then Shutdown else (if m.sent then Ordinary else Quiet)

-- the frame that is sent at the newest event
abbrev pub mark_at : Settings → History → Mark
mark_at s [] = Quiet
mark_at s (e ∷ past) = mark_of (moment s (moments s past) e)
