-- Each run has at most one stop plus one for each reinitDelay ticks in it.
use Rattle.std.specs.Prelude.{◌≡◌, ℕ, zero, suc, ◌+◌, ◌-◌, ◌*◌, ◌/◌, ◌≤◌, Bool, true, false, cond, not, ◌&&◌, ◌||◌, nat_lt, List, [], ◌∷◌, ◌++◌}
use Rattle.std.specs.List.{list_any}
use Rattle.std.proofs.Common.{refl, ap, sym, ◌∙◌, arith}
use Rattle.std.proofs.lemmas.Bool.Decides.{nat_tests}
use Rattle.std.proofs.lemmas.Nat.{le-div}
use Rattle.std.proofs.lemmas.Bool.{or_left, and_parts}
use Rattle.std.proofs.lemmas.List.Folds.{list_any-append}
use Rattle.lldp_transmit.specs.Fronts.{since}
use Rattle.lldp_transmit.specs.History.{Settings, Event, History, is_tick, is_down}
use Rattle.lldp_transmit.specs.Moments.{Moment, moments, moment, ticks, is_active, is_allowed, is_up, rested, allowed_after, up_after}
use Rattle.lldp_transmit.specs.Positions.{stops_in}
use Rattle.lldp_transmit.specs.Remaining.{until_start}
use Rattle.lldp_transmit.specs.Windows.{StopsRarely}
use Rattle.lldp_transmit.proofs.Windows.{earlier, one_if}
use Rattle.lldp_transmit.proofs.Splits.{none_counted}
use Rattle.lldp_transmit.proofs.Counters.{is_active-cons, until_start-cons, rested_is}
use Rattle.std.proofs.lemmas.Grind.{common_steps}

rested_if : (x d l tick w r : Bool) (re n : ℕ) → r ≡ nat_lt n 2 → (x ≡ true → n ≡ 0) →
    (not ((x && not l) || d) && ((tick && (l && (w && (not x && r)))) || x)) ≡ true → cond (x && not l) re (n - one_if tick) ≡ 0
rested_if x d l tick w r re n e i a = grind (arith, nat_tests)

-- If a port is active, its wait after the last stop is over.
rested_if_active : (s : Settings) (h : History) → is_active (moments s h) ≡ true → until_start s (moments s h) ≡ 0
unfolding moment
rested_if_active s [] a = cc
rested_if_active s (e ∷ h) a =
    let past = moments s h in
    let m = moment s past e in
    until_start-cons s m past
    ∙ rested_if (is_active past) (is_down e.cause) (allowed_after e.cause (is_allowed s past)) (is_tick e.cause) (up_after e.cause (is_up past)) (rested s past) s.reinit (until_start s past)
    (rested_is s past) (rested_if_active s h) (sym (is_active-cons m past) ∙ a)

-- one more moment keeps the bound on the stops of a run and on the ticks since its last stop
spaced_after : (r : ℕ) (stop some : Bool) (n w t k : ℕ) → (some ≡ true → r * n + w ≤ t + r) → (some ≡ false → n ≡ 0) → (stop ≡ true → some ≡ true → r ≤ w) →
    (stop || some) ≡ true → r * (one_if stop + n) + cond stop 0 (k + w) ≤ k + t + r
spaced_after r stop some n w t k i j l o = grind (arith, common_steps)

-- if a run that ends now has a stop, its last stop is the last stop of the whole history
any_front : (run before : List Moment) → list_any (λ m. m.stop) run ≡ true → list_any (λ m. m.stop) (run ++ before) ≡ true
any_front run before e = list_any-append (λ m. m.stop) run before ∙ or_left _ _ e

since_front : (run before : List Moment) → list_any (λ m. m.stop) run ≡ true → since (λ m. m.stop) (run ++ before) ≡ since (λ m. m.stop) run
since_front [] before e = cc e
since_front (m ∷ run) before e = grind (arith, common_steps, since_front run before)

enough_ticks : (q : Bool) (r t : ℕ) → q ≡ true → cond q (r - t) 0 ≡ 0 → r ≤ t
enough_ticks true r t e z = omega arith
enough_ticks false r t e z = cc e

pub ticks_since : (m : Moment) (run : List Moment) → ticks (since (λ x. x.stop) (m ∷ run)) ≡ cond m.stop 0 (one_if (is_tick m.cause) + ticks (since (λ x. x.stop) run))
ticks_since m run = elim m.stop as (λ b. ticks (cond b [] (m ∷ since (λ x. x.stop) run)) ≡ cond b 0 (one_if (is_tick m.cause) + ticks (since (λ x. x.stop) run))) [ true ↦ refl | false ↦ refl ]

module _ (s : Settings) where
  -- a stop of an active port comes at least reinitDelay ticks after the stop before it
  late : (h : History) (e : Event) (run before : List Moment) → moments s h ≡ run ++ before → (moment s (moments s h) e).stop ≡ true → list_any (λ m. m.stop) run ≡ true → s.reinit ≤ ticks (since (λ m. m.stop) run)
  unfolding moment
  late h e run before i p q =
      let zero : until_start s (run ++ before) ≡ 0 = rw i at (rested_if_active s h (and_parts _ _ p).0) in
      let enough : s.reinit ≤ ticks (since (λ m. m.stop) (run ++ before)) = enough_ticks _ _ _ (any_front run before q) zero in
      rw (since_front run before q) at enough

  spaced : (h : History) (run before : List Moment) → moments s h ≡ run ++ before → list_any (λ m. m.stop) run ≡ true → s.reinit * stops_in run + ticks (since (λ m. m.stop) run) ≤ ticks run + s.reinit
  spaced h [] before i q = cc q
  spaced [] (m ∷ run) before i q = cc i
  spaced (e ∷ h) (m ∷ run) before i q =
      let head : moment s (moments s h) e ≡ m = cc in
      let rest : moments s h ≡ run ++ before = cc in
      let bound : s.reinit * (one_if m.stop + stops_in run) + cond m.stop 0 (one_if (is_tick m.cause) + ticks (since (λ x. x.stop) run)) ≤ one_if (is_tick m.cause) + ticks run + s.reinit =
      spaced_after s.reinit m.stop (list_any (λ x. x.stop) run) (stops_in run) (ticks (since (λ x. x.stop) run)) (ticks run) (one_if (is_tick m.cause))
      (spaced h run before rest) (none_counted (λ x. x.stop) run) (λ p. late h e run before rest (ap (λ x. x.stop) head ∙ p)) q in
      rw (ticks_since m run) bound

few_from : (r n t : ℕ) → 1 ≤ r → r * n ≤ t + r → n ≤ 1 + t / r
few_from r zero t p b = omega arith
few_from r (suc n) t p b = let q : n ≤ t / r = le-div n t r p (omega arith) in omega arith

-- A run has at most one stop plus one for each reinitDelay ticks in it.
pub stops_rarely : (s : Settings) (h : History) → 1 ≤ s.reinit → StopsRarely s h
stops_rarely s h most later run before i = grind (arith, common_steps, earlier, spaced, few_from, none_counted)
