-- The machine computed from a history, and when a machine represents a history.
use Rattle.std.specs.Prelude.{◌≡◌, ◌≤◌}
use Rattle.lldp_transmit.specs.History.{Settings, History}
use Rattle.lldp_transmit.specs.Code.Machine.{Machine}
use Rattle.lldp_transmit.specs.Moments.{moments, is_active, is_allowed, is_up, is_waiting, signals_left}
use Rattle.lldp_transmit.specs.Remaining.{credit_left, until_start, until_signal}
use Rattle.lldp_transmit.specs.Ranges.{most_credit_max, most_fast_init, most_reinit}

-- the ranges of a port's settings: txCreditMax 1 to 10, txFastInit 1 to 8, reinitDelay 1 to 10
pub record AreSettings (s : Settings) : Type 0 where
  pub some_credit : 1 ≤ s.credit_max
  pub most_credit : s.credit_max ≤ most_credit_max
  pub some_fast : 1 ≤ s.fast_init
  pub most_fast : s.fast_init ≤ most_fast_init
  pub some_wait : 1 ≤ s.reinit
  pub most_wait : s.reinit ≤ most_reinit

-- the machine after these events, computed from the definitions in `Moments`
unfoldable pub machine_of : Settings → History → Machine
machine_of s h =
    let past = moments s h in
    record {
      credit_max = s.credit_max;
      fast_init = s.fast_init;
      reinit = s.reinit;
      credit = credit_left s past;
      wait = until_start s past;
      timer = until_signal s past;
      left = signals_left s past;
      waiting = is_waiting past;
      active = is_active past;
      allowed = is_allowed s past;
      up = is_up past;
    }

-- The settings are in their ranges, and the machine is the one computed from this history.
pub record Stands (s : Settings) (h : History) (t : Machine) : Type 0 where
  pub in_range : AreSettings s
  pub is : t ≡ machine_of s h

-- the property holds for each history that the machine represents
abbrev pub ForEachHistory : Machine → (Settings → History → Type 0) → Type 0
ForEachHistory t P = (s : Settings) (h : History) → Stands s h t → P s h
