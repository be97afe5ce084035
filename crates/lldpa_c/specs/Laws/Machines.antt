-- The transmit machine, by the numbers that C uses.
use Rattle.std.specs.Prelude.{◌≡◌, ℕ, ◌+◌, ◌<◌, ◌≤◌, ◌↔◌, ◌∷◌}
use Rattle.lldp_transmit.specs.declared.event.Cause.{Cause}
use Rattle.lldp_transmit.specs.declared.event.Mark.{Mark}
use Rattle.lldp_transmit.specs.declared.event.Mark.TheVariants.{Ordinary, Shutdown}
use Rattle.lldp_transmit.specs.History.{Settings, History, event}
use Rattle.lldp_transmit.specs.Positions.{IsDueAndOpen, StopsAt}
use Rattle.lldp_transmit.specs.Standing.{Stands}
use Rattle.lldp_transmit.specs.Code.Machine.{Machine}
use Rattle.lldpa_c.specs.Machine.{CanTake, Takes}
use Rattle.lldp_engine.specs.Ranges.{most_interval}

-- A machine takes an event exactly if its credit is not above its most, with a tx-interval from 1 to the
-- greatest. It then stands for the event too, and the mark is that of the event in each history.
pub record AreTaken : Type 0 where
  pub least : (machine : Machine) → ¬ (CanTake machine 0)
  pub most : (machine : Machine) (n : ℕ) → ¬ (CanTake machine (most_interval + 1 + n))
  pub can : (machine : Machine) (interval : ℕ) → machine.credit ≤ machine.credit_max → 0 < interval → interval < most_interval + 1 →
      CanTake machine interval
  pub credit : (machine : Machine) (interval : ℕ) → machine.credit_max < machine.credit → ¬ (CanTake machine interval)
  pub marks : (t after : Machine) (cause : Cause) (interval : ℕ) (mark : Mark) (s : Settings) (h : History) →
      Takes t cause interval after mark → Stands s h t →
      Stands s (event cause interval ∷ h) after
      × ((mark ≡ Ordinary) ↔ IsDueAndOpen s h (event cause interval)) × ((mark ≡ Shutdown) ↔ StopsAt s h (event cause interval))
