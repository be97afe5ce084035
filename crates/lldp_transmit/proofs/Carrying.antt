-- One step of the machine changes its counters as the labels of the next moment say.
use Rattle.std.specs.Prelude.{◌≡◌, ℕ, ◌+◌, ◌-◌, ◌≤◌, Bool, true, false, cond, not, ◌&&◌, ◌||◌, ◌==◌, nat_le, nat_lt, min}
use Rattle.std.proofs.Common.{refl, arith}
use Rattle.std.proofs.lemmas.Bool.Decides.{nat_tests}
use Rattle.lldp_transmit.specs.declared.event.Cause.{Cause}
use Rattle.lldp_transmit.specs.declared.event.Mark.{Mark}
use Rattle.lldp_transmit.specs.declared.event.Mark.TheVariants.{Quiet, Ordinary, Shutdown}
use Rattle.lldp_transmit.specs.Code.Machine.{Machine, stepped}
use Rattle.lldp_transmit.specs.History.{is_tick, is_change, is_neighbor, is_down}
use Rattle.lldp_transmit.specs.Moments.{allowed_after, up_after}
use Rattle.lldp_transmit.proofs.Windows.{one_if}

-- the labels of the next moment, computed from the machine's fields and the cause
abbrev pub start_of : Machine → Cause → Bool
start_of t c = is_tick c && (allowed_after c t.allowed && (up_after c t.up && (not t.active && nat_lt t.wait 2)))

abbrev pub stop_of : Machine → Cause → Bool
stop_of t c = t.active && not (allowed_after c t.allowed)

abbrev pub now_of : Machine → Cause → Bool
now_of t c = not (stop_of t c || is_down c) && (start_of t c || t.active)

abbrev pub signal_of : Machine → Cause → Bool
signal_of t c = now_of t c && (start_of t c || (is_change c || (is_neighbor c || (is_tick c && (not (start_of t c) && (t.timer == 1))))))

abbrev pub opening_of : Machine → Cause → Bool
opening_of t c = signal_of t c && (is_neighbor c && (t.left == 0))

abbrev pub room_of : Machine → Cause → ℕ
room_of t c = min t.credit_max (t.credit + one_if (is_tick c))

abbrev pub sent_of : Machine → Cause → Bool
sent_of t c = (now_of t c && (signal_of t c || (not (start_of t c) && t.waiting))) && nat_le 1 (room_of t c)

abbrev pub spends_of : Machine → Cause → Bool
spends_of t c = signal_of t c && (is_neighbor c || (is_tick c && not (start_of t c)))

abbrev pub left_of : Machine → Cause → ℕ
left_of t c = cond (start_of t c) 0 (cond (opening_of t c) t.fast_init t.left - one_if (spends_of t c))

-- the fields and the answer after a step, computed from the fields before it
pub record Makes (t : Machine) (c : Cause) (n : ℕ) (r : Machine × Mark) : Type 0 where
  pub credit : r.0.credit ≡ room_of t c - one_if (sent_of t c)
  pub wait : r.0.wait ≡ cond (stop_of t c) t.reinit (t.wait - one_if (is_tick c))
  pub timer : r.0.timer ≡ cond (signal_of t c) (cond (nat_lt 0 (left_of t c)) 1 n) (t.timer - one_if (is_tick c))
  pub left : r.0.left ≡ left_of t c
  pub waiting : r.0.waiting ≡ (not (sent_of t c) && (signal_of t c || (not (start_of t c) && t.waiting)))
  pub active : r.0.active ≡ now_of t c
  pub allowed : r.0.allowed ≡ allowed_after c t.allowed
  pub up : r.0.up ≡ up_after c t.up
  pub mark : r.1 ≡ cond (stop_of t c) Shutdown (cond (sent_of t c) Ordinary Quiet)
  pub credit_max : r.0.credit_max ≡ t.credit_max
  pub fast_init : r.0.fast_init ≡ t.fast_init
  pub reinit : r.0.reinit ≡ t.reinit

module _ (t : Machine) (n : ℕ) (few : t.credit ≤ t.credit_max) where
  abbrev so : (waiting active allowed up : Bool) → Machine
  so waiting active allowed up = record t { waiting = waiting; active = active; allowed = allowed; up = up }

  -- a step has these results for each combination of the flags waiting, active, allowed and up
  on : (c : Cause) (wt ac al up : Bool) → (ac ≡ true → al ≡ true) → (ac ≡ true → wt ≡ true → t.credit ≡ 0) → Makes (so wt ac al up) c n (stepped (so wt ac al up) c n)
  on c wt true false up i j = cc (i refl)
  on c true true true up i j = let none : t.credit ≡ 0 = j refl refl in grind (arith, nat_tests)
  on _ _ _ _ _ i j = grind (arith, nat_tests)

-- A step changes the counters as the labels of the next moment say.
pub step_makes : (t : Machine) (c : Cause) (n : ℕ) → t.credit ≤ t.credit_max → (t.active ≡ true → t.allowed ≡ true) → (t.active ≡ true → t.waiting ≡ true → t.credit ≡ 0) → Makes t c n (stepped t c n)
step_makes t c n few i j = on t n few c t.waiting t.active t.allowed t.up i j
