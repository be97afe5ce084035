-- `is_waiting`, `due`, `open_at`, `sent` and the credit agree with their statements by positions.
use Rattle.std.specs.Prelude.{◌≡◌, ℕ, ◌+◌, ◌≤◌, ◌<◌, ◌↔◌, ◌⊎◌, Bool, true, false, IsTrue, List, [], ◌∷◌, ◌++◌}
use Rattle.std.specs.List.{list_all}
use Rattle.std.proofs.Common.{refl, ap, ◌∙◌, arith, inl, inr, subst}
use Rattle.std.proofs.lemmas.Bool.{and_from, leb-true, le-leb, cases_lt}
use Rattle.lldp_transmit.specs.Fronts.{runs, after_first}
use Rattle.lldp_transmit.specs.History.{Settings, Event, History, is_tick}
use Rattle.lldp_transmit.specs.Moments.{moment, Moment, moments, ticks, frames, is_active, is_waiting, within, open_at, due}
use Rattle.lldp_transmit.specs.Remaining.{credit_left}
use Rattle.lldp_transmit.specs.Windows.{AreTimely, with_marks}
use Rattle.lldp_transmit.specs.Positions.{HasStarted, HasWanted, IsDue, IsOpen, IsLeastRoom}
use Rattle.lldp_transmit.proofs.Windows.{one_if, list_all-map, all_fit, fits_enough, bounded, bucket, IsPaid, run_holds, credit_is, bucket_le, paid_moments}
use Rattle.lldp_transmit.proofs.Activity.{active_reads, and_reads, chosen_reads}
use Rattle.lldp_transmit.proofs.Counters.{same_active, is_waiting-cons}
use Rattle.lldp_transmit.proofs.Splits.{lasts_reads}
use Rattle.std.proofs.lemmas.Grind.{common_steps}

-- ---- open windows

-- if a test passes on each front of a list, it passes on each run in `runs`
all_runs : {X : Type 0} (p : List X → Bool) (xs : List X) → ((run before : List X) → xs ≡ run ++ before → p run ≡ true) → list_all p (runs xs) ≡ true
all_runs p [] h = refl
all_runs p (x ∷ xs) h =
    and_from _ _ (h (x ∷ []) xs refl)
    (list_all-map p (λ r. x ∷ r) (runs xs) ∙ all_runs (λ r. p (x ∷ r)) xs (λ run before e. h (x ∷ run) before (ap (λ l. x ∷ l) e)))

same_after : (m : Moment) (run : List Moment) → ticks (after_first (record m { sent = true } ∷ run)) ≡ ticks (after_first (m ∷ run))
same_after m [] = refl
same_after m (x ∷ xs) = refl

pub open_reads : (s : Settings) (past : List Moment) (m : Moment) → 1 ≤ s.credit_max → IsTrue (open_at s past m) ↔ IsOpen s past m
open_reads s past m most = (forth, back)
  where
    forth : IsTrue (open_at s past m) → IsOpen s past m
    forth o run before e =
        let q : list_all (within s) (runs (record m { sent = true } ∷ (run ++ before))) ≡ true = rw e at o in
        let held : within s (record m { sent = true } ∷ run) ≡ true = run_holds (within s) (record m { sent = true }) run before q in
        omega (arith, leb-true _ _ held, same_after m run)

    one : (run before : List Moment) → IsOpen s past m → record m { sent = true } ∷ past ≡ run ++ before → within s run ≡ true
    one [] before o e = le-leb _ _ (omega arith)
    one (x ∷ run) before o e =
        let head : record m { sent = true } ≡ x = cc in
        let bound : frames run + 1 ≤ s.credit_max + ticks (after_first (m ∷ run)) = o run before (cc) in
        let good : within s (record m { sent = true } ∷ run) ≡ true = le-leb _ _ (omega (arith, bound, same_after m run)) in
        subst (λ y. within s (y ∷ run) ≡ true) head good

    back : IsOpen s past m → IsTrue (open_at s past m)
    back o = all_runs (within s) (record m { sent = true } ∷ past) (λ run before e. one run before o e)

-- ---- the credit

-- for some run, its bound less its frames is exactly the content of the bucket
one_leaves : (s : Settings) (ms : List Moment) → IsPaid s ms → (run before : List Moment) × (ms ≡ run ++ before) × (bucket s ms + frames run ≡ s.credit_max + ticks (after_first run))
one_leaves s [] paid = ([], [], refl, omega arith)
one_leaves s (m ∷ past) paid = go (cases_lt (bucket s past + one_if (is_tick m.cause)) s.credit_max) (one_leaves s past paid.1)
  where
    go : (bucket s past + one_if (is_tick m.cause) < s.credit_max) ⊎ (s.credit_max ≤ bucket s past + one_if (is_tick m.cause)) →
        ((run before : List Moment) × (past ≡ run ++ before) × (bucket s past + frames run ≡ s.credit_max + ticks (after_first run))) →
        (run before : List Moment) × (m ∷ past ≡ run ++ before) × (bucket s (m ∷ past) + frames run ≡ s.credit_max + ticks (after_first run))
    go (inr full) _ = (m ∷ [], past, refl, omega (arith, paid.0))
    go (inl less) ([], before, e, b) = absurd (omega arith)
    go (inl less) (x ∷ run, before, e, b) = (m ∷ x ∷ run, before, ap (λ l. m ∷ l) e, omega (arith, paid.0))

least_bucket : (s : Settings) (ms : List Moment) → IsPaid s ms → IsLeastRoom s ms (bucket s ms)
least_bucket s ms paid = record { most = bucket_le s ms; each = each; one = one_leaves s ms paid }
  where
    all : list_all (bounded s.credit_max (bucket s ms) 0) (runs ms) ≡ true
    all = all_fit s.credit_max (bucket s ms) 0 ms ∙ fits_enough s (bucket s ms) 0 ms paid (omega arith)

    each : (run before : List Moment) → ms ≡ run ++ before → bucket s ms + frames run ≤ s.credit_max + ticks (after_first run)
    each [] before e = omega (arith, bucket_le s ms)
    each (x ∷ run) before e =
        let q : list_all (bounded s.credit_max (bucket s ms) 0) (runs ((x ∷ run) ++ before)) ≡ true = subst (λ l. list_all (bounded s.credit_max (bucket s ms) 0) (runs l) ≡ true) e all in
        let held : bounded s.credit_max (bucket s ms) 0 (x ∷ run) ≡ true = run_holds (bounded s.credit_max (bucket s ms) 0) x run before q in
        omega (arith, leb-true _ _ held)

pub credit_reads : (s : Settings) (h : History) → 1 ≤ s.credit_max → IsLeastRoom s (moments s h) (credit_left s (moments s h))
credit_reads s h most = grind (arith, common_steps, paid_moments, credit_is, least_bucket)

-- only one number is the credit as `IsLeastRoom` defines it
pub least_once : (s : Settings) (ms : List Moment) (credit other : ℕ) → IsLeastRoom s ms credit → IsLeastRoom s ms other → credit ≡ other
least_once s ms credit other c d = grind (arith, common_steps)

-- ---- a waiting frame

pub waiting_reads : (ms : List Moment) → IsTrue (is_waiting ms) ↔ HasWanted ms
waiting_reads = lasts_reads is_waiting (λ m. m.signal) (λ m. m.start) (λ m. m.sent) refl is_waiting-cons

-- ---- a sent frame

-- a frame is due exactly if the port is active and a frame waits, as stated by positions
pub due_reads : (s : Settings) (h : History) (e : Event) → IsTrue (due (moments s h) (moment s (moments s h) e)) ↔ IsDue (moments s h) (moment s (moments s h) e)
due_reads s h e =
    let m = moment s (moments s h) e in
    let active : IsTrue (is_active (record m { sent = false } ∷ moments s h)) ↔ HasStarted (m ∷ moments s h) = rw (same_active (moments s h) m m.signal m.opening false) (active_reads s (e ∷ h)) in
    and_reads _ _ _ _ active (waiting_reads (record m { sent = false } ∷ moments s h))

-- the same, with timely marks (`AreTimely`) in place of the frames sent
pub chosen_due_reads : (s : Settings) (h : History) (e : Event) (bs : List Bool) → AreTimely s bs (moments s h) →
    IsTrue (due (with_marks bs (moments s h)) (moment s (moments s h) e)) ↔ IsDue (with_marks bs (moments s h)) (moment s (moments s h) e)
chosen_due_reads s h e bs t =
    let m = moment s (moments s h) e in
    let past = with_marks bs (moments s h) in
    let active : IsTrue (is_active (record m { sent = false } ∷ past)) ↔ HasStarted (m ∷ past) = rw (same_active past m m.signal m.opening false) (chosen_reads s h e bs t) in
    and_reads _ _ _ _ active (waiting_reads (record m { sent = false } ∷ past))

-- An ordinary frame is sent exactly if one is due and the window is open.
pub sent_reads : (s : Settings) (h : History) (e : Event) → 1 ≤ s.credit_max →
    IsTrue (moment s (moments s h) e).sent ↔ (IsDue (moments s h) (moment s (moments s h) e) × IsOpen s (moments s h) (moment s (moments s h) e))
unfolding moment
sent_reads s h e most = and_reads _ _ _ _ (due_reads s h e) (open_reads s (moments s h) (moment s (moments s h) e) most)
