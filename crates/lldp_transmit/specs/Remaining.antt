-- What is left after the moments so far: credit, ticks until a start, ticks until the next signal.
use Rattle.std.specs.Prelude.{ℕ, ◌+◌, ◌-◌, if◌then◌else◌, min, List, map}
use Rattle.std.specs.List.{list_any, fold}
use Rattle.lldp_transmit.specs.Fronts.{since, up_to_last, runs, after_first}
use Rattle.lldp_transmit.specs.History.{Settings}
use Rattle.lldp_transmit.specs.Moments.{Moment, ticks, frames, distance}

-- the frames left to a run: txCreditMax plus the ticks after its first event, less its frames
abbrev pub room : Settings → List Moment → ℕ
room s run = s.credit_max + ticks (after_first run) - frames run

-- the credit (txCredit): the least of txCreditMax and the frames left to each run that ends now
abbrev pub credit_left : Settings → List Moment → ℕ
credit_left s ms = fold min s.credit_max (map (room s) (runs ms))

-- ticks until a start is possible: reinitDelay less the ticks since the last stop; 0 without a stop
abbrev pub until_start : Settings → List Moment → ℕ
until_start s ms =
    if list_any (λ m. m.stop) ms
    then s.reinit - ticks (since (λ m. m.stop) ms)
    else 0

-- ticks until the timer ends (txTTR): the last signal's distance less the ticks since that signal
abbrev pub until_signal : Settings → List Moment → ℕ
until_signal s ms = distance s (up_to_last (λ m. m.signal) ms) - ticks (since (λ m. m.signal) ms)
