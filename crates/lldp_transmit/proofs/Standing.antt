-- If a machine represents a history, then after a step it represents that history with the event.
use Rattle.std.specs.Prelude.{◌≡◌, ℕ, ◌-◌, ◌≤◌, Bool, true, false, cond, not, ◌&&◌, nat_le, List, [], ◌∷◌, IsTrue, ◌↔◌}
use Rattle.std.proofs.Common.{refl, ap, sym, subst, ◌∙◌, arith}
use Rattle.std.proofs.lemmas.Bool.Decides.{nat_tests}
use Rattle.lldp_transmit.specs.declared.event.Cause.{Cause}
use Rattle.lldp_transmit.specs.declared.event.Mark.{Mark}
use Rattle.lldp_transmit.specs.declared.event.Mark.TheVariants.{Quiet, Ordinary, Shutdown}
use Rattle.lldp_transmit.specs.Code.Machine.{Machine, opened, stepped}
use Rattle.lldp_transmit.specs.History.{Settings, Event, History}
use Rattle.lldp_transmit.specs.Moments.{Moment, moments, moment, mark_of, mark_at, unlabelled, with_activity, with_signals, is_active, is_allowed, is_waiting, open_at}
use Rattle.lldp_transmit.specs.Standing.{Stands, AreSettings, machine_of}
use Rattle.lldp_transmit.proofs.Windows.{one_if, bucket, IsPaid, open_is, paid_moments, bucket_le, credit_is}
use Rattle.lldp_transmit.proofs.Counters.{until_start-cons, until_signal-cons, signals_left-cons, is_waiting-cons, is_active-cons, wanted-cons}
use Rattle.lldp_transmit.proofs.Carrying.{start_of, stop_of, signal_of, opening_of, sent_of, Makes, step_makes}
use Rattle.lldp_transmit.proofs.Labels.{Counts, starts_is, stops_is, active_is, signals_is, opens_is, sent_is}
use Rattle.std.proofs.lemmas.Grind.{common_steps}

-- the labels of the moment m are those computed from the machine's fields, the cause and the
-- interval
pub record Labelled (t : Machine) (c : Cause) (n : ℕ) (m : Moment) : Type 0 where
  pub cause : m.cause ≡ c
  pub interval : m.interval ≡ n
  pub start : m.start ≡ start_of t c
  pub stop : m.stop ≡ stop_of t c
  pub signal : m.signal ≡ signal_of t c
  pub opening : m.opening ≡ opening_of t c
  pub sent : m.sent ≡ sent_of t c

module _ (s : Settings) (past : List Moment) (t : Machine) (e : Event) (h : Counts s past t) (most : 1 ≤ s.credit_max) (paid : IsPaid s past) where
  labelled : Labelled t e.cause e.interval (moment s past e)
  unfolding moment
  labelled =
      let m1 = with_activity s past (unlabelled e) in
      let m2 = with_signals s past m1 in
      let start : m1.start ≡ start_of t e.cause = starts_is s past t e.cause h (unlabelled e) refl in
      let stop : m1.stop ≡ stop_of t e.cause = stops_is s past t e.cause h (unlabelled e) refl in
      let signal : m2.signal ≡ signal_of t e.cause = signals_is s past t e.cause h m1 refl start stop in
      record {
        cause = refl;
        interval = refl;
        start = start;
        stop = stop;
        signal = signal;
        opening = opens_is s past t e.cause h m1 refl start stop;
        sent = sent_is s past t e.cause h m2 refl start stop signal most paid;
      }

-- if a step changes the counters as the labels say, they still have their defined values
counted_on : (s : Settings) (past : List Moment) (t : Machine) (c : Cause) (n : ℕ) (m : Moment) (u : Machine × Mark) → Counts s past t → Labelled t c n m → Makes t c n u → Counts s (m ∷ past) u.0
counted_on s past t c n m u h l k = grind (arith, common_steps, until_start-cons, until_signal-cons, signals_left-cons, is_waiting-cons, active_is)

marked_on : (s : Settings) (past : List Moment) (t : Machine) (c : Cause) (n : ℕ) (m : Moment) (u : Machine × Mark) → Labelled t c n m → Makes t c n u → u.1 ≡ mark_of m
marked_on s past t c n m u l k = cc

-- An active port may transmit.
pub allowed_if_active : (s : Settings) (h : History) → is_active (moments s h) ≡ true → is_allowed s (moments s h) ≡ true
unfolding moment
allowed_if_active s [] a = cc
allowed_if_active s (e ∷ h) a = grind (arith, common_steps, is_active-cons)

none_left : (x y o : Bool) (n : ℕ) → x ≡ true → (not ((x && y) && o) && y) ≡ true → o ≡ nat_le 1 n → n - one_if ((x && y) && o) ≡ 0
none_left x y o n a w e = grind (arith, nat_tests)

-- A frame waits on an active port only if there is no credit.
none_if_waiting : (s : Settings) (h : History) → 1 ≤ s.credit_max → is_active (moments s h) ≡ true → is_waiting (moments s h) ≡ true → bucket s (moments s h) ≡ 0
unfolding moment
none_if_waiting s [] most a w = cc
none_if_waiting s (e ∷ h) most a w =
    let past = moments s h in
    let m = with_signals s past (with_activity s past (unlabelled e)) in
    let n = moment s past e in
    none_left (is_active (m ∷ past)) _ (open_at s past m) _
    (is_active-cons m past ∙ sym (is_active-cons n past) ∙ a)
    (ap (λ b. not n.sent && b) (wanted-cons m past) ∙ sym (is_waiting-cons n past) ∙ w)
    (open_is s past m most (paid_moments s h most))

-- After a step the counters still have the values that the definitions give.
pub carries_counts : (s : Settings) (h : History) (t : Machine) (e : Event) → 1 ≤ s.credit_max → Counts s (moments s h) t →
    Counts s (moments s (e ∷ h)) (stepped t e.cause e.interval).0 × ((stepped t e.cause e.interval).1 ≡ mark_of (moment s (moments s h) e))
carries_counts s h t e most counts =
    let past = moments s h in
    let few : t.credit ≤ t.credit_max = omega (arith, bucket_le s past) in
    let labels = labelled s past t e counts most (paid_moments s h most) in
    let makes = step_makes t e.cause e.interval few (λ a. counts.allowed ∙ allowed_if_active s h (sym counts.active ∙ a)) (λ a w. counts.credit ∙ none_if_waiting s h most (sym counts.active ∙ a) (sym counts.waiting ∙ w)) in
    (counted_on s past t e.cause e.interval (moment s past e) (stepped t e.cause e.interval) counts labels makes, marked_on s past t e.cause e.interval (moment s past e) (stepped t e.cause e.interval) labels makes)

-- `Stands` uses windows and `Counts` uses the bucket. These lemmas convert between them, first for
-- the machine computed from a history.
counts_left : (s : Settings) (h : History) → AreSettings s → Counts s (moments s h) (machine_of s h)
unfolding machine_of
counts_left s h r = grind (arith, common_steps, credit_is, paid_moments)

counts_of : (s : Settings) (h : History) (t : Machine) → Stands s h t → Counts s (moments s h) t
counts_of s h t k = subst (λ (x : Machine). Counts s (moments s h) x) (sym k.is) (counts_left s h k.in_range)

stands_of : (s : Settings) (h : History) (t : Machine) → AreSettings s → Counts s (moments s h) t → Stands s h t
unfolding machine_of
stands_of s h t r k =
    let credit = credit_is s (moments s h) (paid_moments s h r.some_credit) in
    record { in_range = r; is = rw (credit, ← k.credit, ← k.wait, ← k.timer, ← k.left, ← k.waiting, ← k.active, ← k.allowed, ← k.up, ← k.credit_max, ← k.fast_init, ← k.reinit) refl }

-- If a machine represents a history, then after a step it represents that history with the event.
pub carries : (s : Settings) (h : History) (t : Machine) (e : Event) → Stands s h t → Stands s (e ∷ h) (stepped t e.cause e.interval).0
carries s h t e k = stands_of s (e ∷ h) _ k.in_range (carries_counts s h t e k.in_range.some_credit (counts_of s h t k)).0

-- The answer of a step is the mark of its event.
pub marks : (s : Settings) (h : History) (t : Machine) (e : Event) → Stands s h t → (stepped t e.cause e.interval).1 ≡ mark_at s (e ∷ h)
marks s h t e k = (carries_counts s h t e k.in_range.some_credit (counts_of s h t k)).1

-- A machine just opened represents the empty history.
pub stands_at_first : (s : Settings) → AreSettings s → Stands s [] (opened s)
unfolding machine_of
stands_at_first s r = record { in_range = r; is = refl }

-- The machine computed from a history represents that history.
pub stands_left : (s : Settings) (h : History) → AreSettings s → Stands s h (machine_of s h)
stands_left s h r = record { in_range = r; is = refl }

-- No ordinary frame is sent at a stop.
pub apart : (s : Settings) (past : List Moment) (e : Event) → (moment s past e).stop ≡ true → (moment s past e).sent ≡ false
unfolding moment
apart s past e p = grind (arith, common_steps, is_active-cons)

ordinary_by : (x y : Bool) (r : Mark) → (x ≡ true → y ≡ false) → r ≡ cond x Shutdown (cond y Ordinary Quiet) → ((r ≡ Ordinary) ↔ IsTrue y) × ((r ≡ Shutdown) ↔ IsTrue x)
ordinary_by x y r a e = grind (arith, common_steps)

-- The mark is Ordinary exactly if a frame is due in an open window, and Shutdown exactly at a stop.
pub exact : (s : Settings) (past : List Moment) (e : Event) (r : Mark) → r ≡ mark_of (moment s past e) → ((r ≡ Ordinary) ↔ IsTrue (moment s past e).sent) × ((r ≡ Shutdown) ↔ IsTrue (moment s past e).stop)
exact s past e r p = ordinary_by (moment s past e).stop (moment s past e).sent r (apart s past e) p
