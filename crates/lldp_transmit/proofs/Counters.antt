-- Each counter after one more moment, computed from the labels of that moment.
use Rattle.std.specs.Prelude.{◌≡◌, ℕ, ◌+◌, ◌-◌, Bool, true, false, cond, not, ◌&&◌, ◌||◌, ◌==◌, nat_le, nat_lt, List, [], ◌∷◌}
use Rattle.std.specs.List.{list_any}
use Rattle.std.proofs.Common.{refl, sym, ◌∙◌, arith}
use Rattle.std.proofs.lemmas.Bool.Decides.{nat_tests}
use Rattle.lldp_transmit.specs.Fronts.{since}
use Rattle.lldp_transmit.specs.History.{Settings, is_tick}
use Rattle.lldp_transmit.specs.Moments.{Moment, is_active, is_waiting, ends, rested, spends, signals_left, distance}
use Rattle.lldp_transmit.specs.Remaining.{until_start, until_signal}
use Rattle.lldp_transmit.proofs.Windows.{one_if}
use Rattle.std.proofs.lemmas.Grind.{common_steps}

sub-zero : (n : ℕ) → n - 0 ≡ n
sub-zero n = omega arith

sub-add : (a b c : ℕ) → a - (b + c) ≡ a - c - b
sub-add a b c = omega arith

pub until_start-cons : (s : Settings) (m : Moment) (past : List Moment) → until_start s (m ∷ past) ≡ cond m.stop s.reinit (until_start s past - one_if (is_tick m.cause))
until_start-cons s m past = grind (arith, common_steps, one_if, sub-zero, sub-add)

pub until_signal-cons : (s : Settings) (m : Moment) (past : List Moment) → until_signal s (m ∷ past) ≡ cond m.signal (distance s (m ∷ past)) (until_signal s past - one_if (is_tick m.cause))
until_signal-cons s m past = grind (arith, common_steps, one_if)

none_from_start : (b : Bool) (m : List Moment) → list_any (λ x. x.signal) (cond b [] m) ≡ (not b && list_any (λ x. x.signal) m)
none_from_start true ms = refl
none_from_start false ms = refl

pub is_waiting-cons : (m : Moment) (past : List Moment) → is_waiting (m ∷ past) ≡ (not m.sent && (m.signal || (not m.start && is_waiting past)))
is_waiting-cons m past = grind (arith, common_steps, none_from_start)

-- whether a frame waits after a moment at which no frame is sent
pub wanted-cons : (m : Moment) (past : List Moment) → is_waiting (record m { sent = false } ∷ past) ≡ (m.signal || (not m.start && is_waiting past))
wanted-cons m past = is_waiting-cons (record m { sent = false }) past

pub is_active-cons : (m : Moment) (past : List Moment) → is_active (m ∷ past) ≡ (not (ends m) && (m.start || is_active past))
is_active-cons m past = elim (ends m) as (λ b. list_any (λ x. x.start) (cond b [] (m ∷ since ends past)) ≡ (not b && (m.start || is_active past))) [ true ↦ refl | false ↦ refl ]

-- whether a port is active does not depend on the labels `signal`, `opening` and `sent`
pub same_active : (past : List Moment) (m : Moment) (b c d : Bool) → is_active (record m { signal = b; opening = c; sent = d } ∷ past) ≡ is_active (m ∷ past)
same_active past m b c d = is_active-cons (record m { signal = b; opening = c; sent = d }) past ∙ sym (is_active-cons m past)

pub signals_left-cons : (s : Settings) (m : Moment) (past : List Moment) → signals_left s (m ∷ past) ≡ cond m.start 0 (cond m.opening s.fast_init (signals_left s past) - one_if (spends m))
signals_left-cons s m past = grind (arith, common_steps, one_if)

rested_by : (r t : ℕ) → nat_le r (1 + t) ≡ nat_lt (r - t) 2
rested_by r t = grind (arith, nat_tests)

pub rested_is : (s : Settings) (past : List Moment) → rested s past ≡ nat_lt (until_start s past) 2
rested_is s past = grind (arith, common_steps, rested_by)

pub timer_is : (d t : ℕ) → (1 + t == d) ≡ (d - t == 1)
timer_is d t = grind (arith, nat_tests)
