-- The labels of the next moment, computed from a machine that represents the moments so far.
use Rattle.std.specs.Prelude.{◌≡◌, false, ◌≤◌, ◌&&◌, List, ◌∷◌}
use Rattle.lldp_transmit.specs.declared.event.Cause.{Cause}
use Rattle.lldp_transmit.specs.Code.Machine.{Machine}
use Rattle.lldp_transmit.specs.Fronts.{since, up_to_last}
use Rattle.lldp_transmit.specs.History.{Settings}
use Rattle.lldp_transmit.specs.Moments.{Moment, ticks, is_active, is_allowed, is_up, is_waiting, starts, stops, signals_left, distance, signals, opens, due, open_at}
use Rattle.lldp_transmit.specs.Remaining.{until_start, until_signal}
use Rattle.lldp_transmit.proofs.Windows.{bucket, IsPaid, open_is}
use Rattle.lldp_transmit.proofs.Counters.{rested_is, timer_is, is_active-cons, wanted-cons}
use Rattle.lldp_transmit.proofs.Carrying.{start_of, stop_of, now_of, signal_of, opening_of, sent_of}

-- each counter has the value that the definitions give; the credit is the content of the bucket
pub record Counts (s : Settings) (past : List Moment) (t : Machine) : Type 0 where
  pub credit_max : t.credit_max ≡ s.credit_max
  pub fast_init : t.fast_init ≡ s.fast_init
  pub reinit : t.reinit ≡ s.reinit
  pub credit : t.credit ≡ bucket s past
  pub wait : t.wait ≡ until_start s past
  pub timer : t.timer ≡ until_signal s past
  pub left : t.left ≡ signals_left s past
  pub waiting : t.waiting ≡ is_waiting past
  pub active : t.active ≡ is_active past
  pub allowed : t.allowed ≡ is_allowed s past
  pub up : t.up ≡ is_up past

module _ (s : Settings) (past : List Moment) (t : Machine) (c : Cause) (h : Counts s past t) where
  pub starts_is : (m : Moment) → m.cause ≡ c → starts s past m ≡ start_of t c
  starts_is m e = cc (rested_is s past)

  pub stops_is : (m : Moment) → m.cause ≡ c → stops s past m ≡ stop_of t c
  stops_is m e = cc

  pub active_is : (m : Moment) → m.cause ≡ c → m.start ≡ start_of t c → m.stop ≡ stop_of t c → is_active (m ∷ past) ≡ now_of t c
  active_is m e start stop = cc (is_active-cons m past)

  pub signals_is : (m : Moment) → m.cause ≡ c → m.start ≡ start_of t c → m.stop ≡ stop_of t c → signals s past m ≡ signal_of t c
  signals_is m e start stop = cc (active_is m e start stop, timer_is (distance s (up_to_last (λ x. x.signal) past)) (ticks (since (λ x. x.signal) past)))

  pub opens_is : (m : Moment) → m.cause ≡ c → m.start ≡ start_of t c → m.stop ≡ stop_of t c → opens s past m ≡ opening_of t c
  opens_is m e start stop = cc (signals_is m e start stop)

  pub sent_is : (m : Moment) → m.cause ≡ c → m.start ≡ start_of t c → m.stop ≡ stop_of t c → m.signal ≡ signal_of t c → 1 ≤ s.credit_max → IsPaid s past → (due past m && open_at s past m) ≡ sent_of t c
  sent_is m e start stop signal most paid = cc (active_is (record m { sent = false }) e start stop, wanted-cons m past, open_is s past m most paid)
