-- The labels again, stated by positions in the list of moments, so that nothing must be computed.
use Rattle.std.specs.Prelude.{false, ◌≡◌, ℕ, ◌+◌, ◌-◌, ◌≤◌, ◌⊎◌, IsTrue, List, ◌∷◌, ◌++◌}
use Rattle.lldp_transmit.specs.declared.event.Cause.TheVariants.{Tick, Change, Neighbor}
use Rattle.lldp_transmit.specs.Fronts.{Position, count, after_first}
use Rattle.lldp_transmit.specs.History.{Settings, Event, History}
use Rattle.lldp_transmit.specs.Moments.{Moment, moment, moments, ticks, frames, is_allowed, is_up, spends}

-- how many starts are in a run
abbrev pub starts_in : List Moment → ℕ
starts_in ms = count (λ m. m.start) ms

-- how many stops are in a run
abbrev pub stops_in : List Moment → ℕ
stops_in ms = count (λ m. m.stop) ms

-- how many signals are in a run
abbrev pub signals_in : List Moment → ℕ
signals_in ms = count (λ m. m.signal) ms

-- the link is up at each moment of `after`, which follows the moments `before`
abbrev pub StaysUp : List Moment → List Moment → Type 0
StaysUp after before = (p : Position after) → IsTrue (is_up ((p.there ∷ p.before) ++ before))

-- Active: some start has no stop after it, and the link is up at each later moment.
abbrev pub HasStarted : List Moment → Type 0
HasStarted ms =
    (p : Position ms) × IsTrue p.there.start × (stops_in p.after ≡ 0) × StaysUp p.after (p.there ∷ p.before)

-- Rested: at least reinitDelay ticks have passed since each stop, the current tick included.
abbrev pub HasRested : Settings → List Moment → Type 0
HasRested s past = (p : Position past) → IsTrue p.there.stop → s.reinit ≤ 1 + ticks p.after

-- Start: a tick at which the port may transmit, its link is up, it was not active, and it has
-- rested.
abbrev pub IsStart : Settings → List Moment → Moment → Type 0
IsStart s past m =
    (m.cause ≡ Tick) × IsTrue (is_allowed s (m ∷ past)) × IsTrue (is_up (m ∷ past))
    × ¬ (HasStarted past) × HasRested s past

-- Stop: the port was active, and may no longer transmit.
abbrev pub IsStop : Settings → List Moment → Moment → Type 0
IsStop s past m = HasStarted past × (is_allowed s (m ∷ past) ≡ false)

-- a burst was opened since the last start, and n signals are left: txFastInit less the signals of
-- new neighbors and of the timer from the last opening on
abbrev pub HasOpened : Settings → List Moment → ℕ → Type 0
HasOpened s ms n =
    (p : Position ms) × IsTrue p.there.opening × (count (λ m. m.opening) p.after ≡ 0)
    × (starts_in (p.there ∷ p.after) ≡ 0) × (n ≡ s.fast_init - count spends (p.there ∷ p.after))

-- no burst was opened since the last start: each opening has a start at its moment or later
abbrev pub NoneOpened : List Moment → Type 0
NoneOpened ms = (p : Position ms) → IsTrue p.there.opening → 1 ≤ starts_in (p.there ∷ p.after)

-- Burst: n signals are left, which is 0 if no burst was opened since the last start.
abbrev pub AreLeft : Settings → List Moment → ℕ → Type 0
AreLeft s ms n = HasOpened s ms n ⊎ (NoneOpened ms × (n ≡ 0))

-- Distance from a signal to the next: 1 (msgFastTx) if signals are left, else its tx-interval.
abbrev pub IsDistance : Settings → Moment → List Moment → ℕ → Type 0
IsDistance s m before d = (n : ℕ) × AreLeft s (m ∷ before) n × (1 ≤ n → d ≡ 1) × (n ≡ 0 → d ≡ m.interval)

-- End of the timer: a tick without a start, when the distance set at the last signal has passed.
abbrev pub IsTimerEnd : Settings → List Moment → Moment → Type 0
IsTimerEnd s past m =
    (m.cause ≡ Tick) × (m.start ≡ false)
    × (p : Position past) × IsTrue p.there.signal × (signals_in p.after ≡ 0)
    × IsDistance s p.there p.before (1 + ticks p.after)

-- Signal: on an active port, a start, a local change, a new neighbor, or the end of the timer.
abbrev pub IsSignal : Settings → List Moment → Moment → Type 0
IsSignal s past m =
    HasStarted (m ∷ past) × (IsTrue m.start ⊎ ((m.cause ≡ Change) ⊎ ((m.cause ≡ Neighbor) ⊎ IsTimerEnd s past m)))

-- Opening of a burst: a new neighbor's signal when no signals are left.
abbrev pub IsOpening : Settings → List Moment → Moment → Type 0
IsOpening s past m = IsSignal s past m × (m.cause ≡ Neighbor) × AreLeft s past 0

-- Waiting: some signal has no start after it, and no ordinary frame at it or after it.
abbrev pub HasWanted : List Moment → Type 0
HasWanted ms =
    (p : Position ms) × IsTrue p.there.signal × (starts_in p.after ≡ 0) × (frames (p.there ∷ p.after) ≡ 0)

-- Due: the port is active, and some signal since its start has had no frame before this moment.
abbrev pub IsDue : List Moment → Moment → Type 0
IsDue past m = HasStarted (m ∷ past) × HasWanted (record m { sent = false } ∷ past)

-- Open window: with one more frame now, each run that ends now has at most txCreditMax frames plus
-- one for each tick after its first event.
abbrev pub IsOpen : Settings → List Moment → Moment → Type 0
IsOpen s past m =
    (run before : List Moment) → past ≡ run ++ before →
    frames run + 1 ≤ s.credit_max + ticks (after_first (m ∷ run))

-- Credit: the least of txCreditMax and, for each run that ends now, its bound less its frames.
pub record IsLeastRoom (s : Settings) (ms : List Moment) (credit : ℕ) : Type 0 where
  pub most : credit ≤ s.credit_max
  pub each : (run before : List Moment) → ms ≡ run ++ before →
      credit + frames run ≤ s.credit_max + ticks (after_first run)
  pub one : (run before : List Moment) × (ms ≡ run ++ before)
      × (credit + frames run ≡ s.credit_max + ticks (after_first run))

-- Sent: at the next event a frame is due, and the window is open.
abbrev pub IsDueAndOpen : Settings → History → Event → Type 0
IsDueAndOpen s past e =
    let before = moments s past in
    let m = moment s before e in
    IsDue before m × IsOpen s before m

-- at the next event the port stops
abbrev pub StopsAt : Settings → History → Event → Type 0
StopsAt s past e = let before = moments s past in IsStop s before (moment s before e)
