-- Signals, bursts, distance and the timer, as computed, agree with their statements by positions.
use Rattle.std.specs.Prelude.{◌≡◌, ℕ, zero, suc, ◌+◌, ◌-◌, ◌≤◌, ◌↔◌, ◌⊎◌, Bool, true, false, cond, not, ◌&&◌, ◌||◌, ◌==◌, nat_lt, IsTrue, List, [], ◌∷◌}
use Rattle.std.specs.List.{list_any}
use Rattle.std.proofs.Common.{refl, ap, ap₂, sym, ◌∙◌, arith, inl, inr, subst}
use Rattle.std.proofs.lemmas.Bool.{and_parts, and_from, or_cases, or_left, or_right, not-true, eqb-true, eq-eqb}
use Rattle.std.proofs.lemmas.Bool.Decides.{nat_tests}
use Rattle.lldp_transmit.specs.declared.event.Cause.{Cause}
use Rattle.lldp_transmit.specs.declared.event.Cause.TheVariants.{Change, Neighbor}
use Rattle.lldp_transmit.specs.Fronts.{Position, count, since, from_last, up_to_last}
use Rattle.lldp_transmit.specs.History.{Settings, Event, History, is_tick, is_change, is_neighbor}
use Rattle.lldp_transmit.specs.Moments.{moment, Moment, moments, ticks, is_active, unlabelled, with_activity, spends, signals_left, distance, timer_ends}
use Rattle.lldp_transmit.specs.Positions.{NoneOpened, AreLeft, IsDistance, IsTimerEnd, IsSignal, IsOpening, starts_in}
use Rattle.lldp_transmit.proofs.Splits.{count-append, count_never, Lasts, lasts_reads, or_again, find_last, up_to_none, at_last}
use Rattle.lldp_transmit.proofs.Counters.{same_active}
use Rattle.std.proofs.lemmas.Grind.{common_steps}
use Rattle.lldp_transmit.proofs.Activity.{active_reads, and_reads, is_tick_only}

-- ---- signals left

-- whether a burst was opened since the last start
abbrev is_opened : List Moment → Bool
is_opened ms = list_any (λ m. m.opening) (since (λ m. m.start) ms)

opened-cons : (m : Moment) (past : List Moment) → is_opened (m ∷ past) ≡ (not m.start && (m.opening || is_opened past))
opened-cons m past = elim m.start as (λ b. list_any (λ x. x.opening) (cond b [] (m ∷ since (λ x. x.start) past)) ≡ (not b && (m.opening || is_opened past))) [ true ↦ refl | false ↦ refl ]

-- a burst was opened since the last start exactly if some opening has no start at it or after it
some_opening : (ms : List Moment) → IsTrue (is_opened ms) ↔ Lasts (λ m. m.opening) (λ _. false) (λ m. m.start) ms
some_opening = lasts_reads is_opened (λ m. m.opening) (λ _. false) (λ m. m.start) refl opened-cons

last_opening : (ms : List Moment) → IsTrue (is_opened ms) ↔ Lasts (λ m. m.opening) (λ m. m.opening) (λ m. m.start) ms
last_opening = lasts_reads is_opened (λ m. m.opening) (λ m. m.opening) (λ m. m.start) refl (λ m past. opened-cons m past ∙ ap (λ b. not m.start && b) (or_again m.opening (is_opened past)))

-- the signals left, computed from the position of the last opening
left_since : (s : Settings) (ms : List Moment) (p : Position ms) → IsTrue p.there.opening → count (λ x. x.opening) p.after ≡ 0 →
    s.fast_init - count spends (from_last (λ x. x.opening) ms) ≡ s.fast_init - count spends (p.there ∷ p.after)
left_since s ms p g c =
    ap (λ n. s.fast_init - n) (ap (count spends) (at_last (λ x. x.opening) p g c).2 ∙ count-append spends p.after (p.there ∷ []) ∙ omega arith)

none_opened : (ms : List Moment) → is_opened ms ≡ false → NoneOpened ms
none_opened ms o p g = go (starts_in (p.there ∷ p.after)) refl
  where
    go : (n : ℕ) → starts_in (p.there ∷ p.after) ≡ n → 1 ≤ n
    go zero q = let opened : is_opened ms ≡ true = (some_opening ms).1 (p, g, count_never p.after, q) in cc
    go (suc n) q = omega arith

pub left_reads : (s : Settings) (ms : List Moment) (n : ℕ) → (n ≡ signals_left s ms) ↔ AreLeft s ms n
left_reads s ms n = (λ e. subst (AreLeft s ms) (sym e) (go (is_opened ms) refl), back)
  where
    value : Bool → ℕ
    value b = cond b (s.fast_init - count spends (from_last (λ x. x.opening) ms)) 0

    go : (b : Bool) → is_opened ms ≡ b → AreLeft s ms (value b)
    go true o = let (p, g, c, z) = (last_opening ms).0 o in inl (p, g, c, z, left_since s ms p g c)
    go false o = inr (none_opened ms o, refl)

    none : (b : Bool) → is_opened ms ≡ b → NoneOpened ms → 0 ≡ value b
    none true o f = let (p, g, c, z) = (last_opening ms).0 o in absurd (omega (arith, f p g, z))
    none false o f = refl

    back : AreLeft s ms n → n ≡ signals_left s ms
    back (inl (p, g, c, z, l)) = l ∙ sym (left_since s ms p g c) ∙ sym (ap value ((last_opening ms).1 (p, g, c, z)))
    back (inr (f, z)) = z ∙ none (is_opened ms) refl f

-- ---- distance

chosen : (n i : ℕ) → (1 ≤ n → cond (nat_lt 0 n) 1 i ≡ 1) × (n ≡ 0 → cond (nat_lt 0 n) 1 i ≡ i)
chosen n i = (λ p. grind (arith, nat_tests), λ p. grind (arith, nat_tests))

pub distance_reads : (s : Settings) (m : Moment) (before : List Moment) (d : ℕ) → (d ≡ distance s (m ∷ before)) ↔ IsDistance s m before d
distance_reads s m before d = (forth, back)
  where
    left : ℕ
    left = signals_left s (m ∷ before)

    forth : d ≡ distance s (m ∷ before) → IsDistance s m before d
    forth e = (left, (left_reads s (m ∷ before) left).0 refl, λ p. e ∙ (chosen left m.interval).0 p, λ p. e ∙ (chosen left m.interval).1 p)

    back : IsDistance s m before d → d ≡ distance s (m ∷ before)
    back (n, l, one, other) = grind (arith, nat_tests, (left_reads s (m ∷ before) n).1 l)

-- ---- end of the timer

-- whether the timer ends, computed from the moments since the last signal
abbrev is_ended : Settings → List Moment → Bool
is_ended s past = 1 + ticks (since (λ m. m.signal) past) == distance s (up_to_last (λ m. m.signal) past)

-- whether the timer ends, computed from the position of the last signal
ended_is : (s : Settings) (past : List Moment) (p : Position past) → IsTrue p.there.signal → count (λ m. m.signal) p.after ≡ 0 → is_ended s past ≡ (1 + ticks p.after == distance s (p.there ∷ p.before))
ended_is s past p g c =
    let at = at_last (λ m. m.signal) p g c in ap₂ (λ later last. 1 + ticks later == distance s last) at.0 at.1

pub timer_reads : (s : Settings) (past : List Moment) (m : Moment) → IsTrue (timer_ends s past m) ↔ IsTimerEnd s past m
timer_reads s past m = (λ e. forth e (list_any (λ m. m.signal) past) refl, back)
  where
    forth : IsTrue (timer_ends s past m) → (b : Bool) → list_any (λ m. m.signal) past ≡ b → IsTimerEnd s past m
    forth e false q =
        let none : distance s (up_to_last (λ m. m.signal) past) ≡ 0 = ap (distance s) (up_to_none (λ m. m.signal) past q) in
        let ended : is_ended s past ≡ true = (and_parts (not m.start) (is_ended s past) (and_parts (is_tick m.cause) (not m.start && is_ended s past) e).1).1 in
        absurd (omega (arith, eqb-true (1 + ticks (since (λ m. m.signal) past)) (distance s (up_to_last (λ m. m.signal) past)) ended, none))
    forth e true q =
        let a = and_parts _ _ e in
        let b = and_parts _ _ a.1 in
        let (p, g, c, _) = find_last (λ m. m.signal) past q in
        (is_tick_only m.cause a.0, not-true m.start b.0, p, g, c, (distance_reads s p.there p.before (1 + ticks p.after)).0 (eqb-true _ _ (sym (ended_is s past p g c) ∙ b.1)))

    back : IsTimerEnd s past m → IsTrue (timer_ends s past m)
    back (t, n, p, g, c, d) =
        and_from _ _ (ap is_tick t) (and_from _ _ (ap not n) (ended_is s past p g c ∙ eq-eqb _ _ ((distance_reads s p.there p.before (1 + ticks p.after)).1 d)))

-- ---- signals and openings

is_change_only : (c : Cause) → is_change c ≡ true → c ≡ Change
is_change_only Change e = refl
is_change_only _ e = cc e

is_neighbor_only : (c : Cause) → is_neighbor c ≡ true → c ≡ Neighbor
is_neighbor_only Neighbor e = refl
is_neighbor_only _ e = cc e

-- the reasons for a signal on an active port
abbrev Wants : Settings → List Moment → Moment → Type 0
Wants s past m = IsTrue m.start ⊎ ((m.cause ≡ Change) ⊎ ((m.cause ≡ Neighbor) ⊎ IsTimerEnd s past m))

wants : (s : Settings) (past : List Moment) (m : Moment) → IsTrue (m.start || (is_change m.cause || (is_neighbor m.cause || timer_ends s past m))) → Wants s past m
wants s past m p = grind (arith, common_steps, or_cases, is_change_only, is_neighbor_only, timer_reads)

wanted : (s : Settings) (past : List Moment) (m : Moment) → Wants s past m → IsTrue (m.start || (is_change m.cause || (is_neighbor m.cause || timer_ends s past m)))
wanted s past m b = grind (arith, nat_tests, or_left, or_right, timer_reads)

pub signal_reads : (s : Settings) (h : History) (e : Event) → IsTrue (moment s (moments s h) e).signal ↔ IsSignal s (moments s h) (moment s (moments s h) e)
unfolding moment
signal_reads s h e =
    let m = moment s (moments s h) e in
    let same : is_active (m ∷ moments s h) ≡ is_active (with_activity s (moments s h) (unlabelled e) ∷ moments s h) = same_active (moments s h) (with_activity s (moments s h) (unlabelled e)) _ _ _ in
    let active = active_reads s (e ∷ h) in
    and_reads _ _ _ _ (λ a. active.0 (same ∙ a), λ w. sym same ∙ active.1 w) (wants s (moments s h) m, wanted s (moments s h) m)

pub opening_reads : (s : Settings) (h : History) (e : Event) → IsTrue (moment s (moments s h) e).opening ↔ IsOpening s (moments s h) (moment s (moments s h) e)
unfolding moment
opening_reads s h e = (forth, back)
  where
    forth : IsTrue (moment s (moments s h) e).opening → IsOpening s (moments s h) (moment s (moments s h) e)
    forth p =
        let a = and_parts _ _ p in
        let b = and_parts _ _ a.1 in
        ((signal_reads s h e).0 a.0, is_neighbor_only e.cause b.0, (left_reads s (moments s h) 0).0 (sym (eqb-true (signals_left s (moments s h)) 0 b.1)))

    back : IsOpening s (moments s h) (moment s (moments s h) e) → IsTrue (moment s (moments s h) e).opening
    back (g, n, l) =
        and_from _ _ ((signal_reads s h e).1 g) (and_from _ _ (ap is_neighbor n) (eq-eqb (signals_left s (moments s h)) 0 (sym ((left_reads s (moments s h) 0).1 l))))
