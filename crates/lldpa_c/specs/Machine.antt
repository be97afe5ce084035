-- The transmit machine, with the numbers that C uses.
use Rattle.std.specs.Prelude.{◌≡◌, ℕ, ◌≤◌, ◌==◌, ◌↔◌, ◌∷◌, Option, Some, None, if◌then◌else◌}
use Rattle.lldp_transmit.specs.declared.event.Cause.{Cause}
use Rattle.lldp_transmit.specs.declared.event.Cause.TheVariants.{Tick, Change, Neighbor, Stop, Allow, Down, Up, Nothing}
use Rattle.lldp_transmit.specs.declared.event.Mark.{Mark}
use Rattle.lldp_transmit.specs.declared.event.Mark.TheVariants.{Quiet, Ordinary, Shutdown}
use Rattle.lldp_transmit.specs.History.{event}
use Rattle.lldp_transmit.specs.Moments.{mark_at}
use Rattle.lldp_transmit.specs.Positions.{IsDueAndOpen, StopsAt}
use Rattle.lldp_transmit.specs.Standing.{Stands, ForEachHistory}
use Rattle.lldp_transmit.specs.Windows.{IsBoundedWith, StopsRarelyWith, IsEarliestWith}
use Rattle.lldp_transmit.specs.Code.Machine.{Machine, stepped}
use Rattle.lldp_engine.specs.Ranges.{most_interval}

-- the cause with this number, if there is one
abbrev pub cause_numbered : ℕ → Option Cause
cause_numbered n =
    if n == 0 then Some Tick
    else if n == 1 then Some Change
    else if n == 2 then Some Neighbor
    else if n == 3 then Some Stop
    else if n == 4 then Some Allow
    else if n == 5 then Some Down
    else if n == 6 then Some Up
    else if n == 7 then Some Nothing
    else None

-- the number of a mark
abbrev pub mark_number : Mark → ℕ
mark_number Quiet = 0
mark_number Ordinary = 1
mark_number Shutdown = 2

-- the machine's credit is at most its credit_max, and the tx-interval is in its range
pub record CanTake (machine : Machine) (interval : ℕ) : Type 0 where
  pub credit : machine.credit ≤ machine.credit_max
  pub least : 1 ≤ interval
  pub most : interval ≤ most_interval

-- The contract of an event: it changes machine `t` to `after`, and `answer` is the frame to send.
pub record Takes (t : Machine) (cause : Cause) (interval : ℕ) (after : Machine) (answer : Mark) : Type 0 where
  pub next : after ≡ (stepped t cause interval).0
  pub told : answer ≡ (stepped t cause interval).1
  pub stands : ForEachHistory t (λ s past. Stands s (event cause interval ∷ past) after)
  pub mark : ForEachHistory t (λ s past. answer ≡ mark_at s (event cause interval ∷ past))
  pub ordinary : ForEachHistory t (λ s past. (answer ≡ Ordinary) ↔ IsDueAndOpen s past (event cause interval))
  pub shutdown : ForEachHistory t (λ s past. (answer ≡ Shutdown) ↔ StopsAt s past (event cause interval))
  pub bounded : ForEachHistory t (λ s past. IsBoundedWith s past (event cause interval) answer)
  pub few_stops : ForEachHistory t (λ s past. StopsRarelyWith s past (event cause interval) answer)
  pub earliest : ForEachHistory t (λ s past. IsEarliestWith s past (event cause interval) answer)
