-- `is_active`, `rested`, `start` and `stop` agree with their statements by positions.
use Rattle.std.specs.Prelude.{◌≡◌, ℕ, ◌+◌, ◌≤◌, ◌↔◌, Bool, true, false, cond, not, ◌&&◌, ◌||◌, IsTrue, List, [], ◌∷◌, ◌++◌}
use Rattle.std.specs.List.{list_any}
use Rattle.std.proofs.Common.{refl, ap, ap₂, ◌∙◌, arith}
use Rattle.std.proofs.lemmas.Bool.{or_right, and_parts, and_from, leb-true, le-leb, not-true, not_from_false, false_from_ne_true, false≢true}
use Rattle.lldp_transmit.specs.declared.event.Cause.{Cause}
use Rattle.lldp_transmit.specs.declared.event.Cause.TheVariants.{Tick, Down, Up}
use Rattle.lldp_transmit.specs.Fronts.{Position, count, since}
use Rattle.lldp_transmit.specs.History.{Settings, Event, History, is_tick, is_down}
use Rattle.lldp_transmit.specs.Moments.{moment, Moment, moments, ticks, ends, up_after, is_active, is_up, rested}
use Rattle.lldp_transmit.specs.Windows.{AreTimely, with_marks}
use Rattle.lldp_transmit.specs.Positions.{HasStarted, HasRested, StaysUp, IsStart, IsStop, stops_in}
use Rattle.lldp_transmit.proofs.Windows.{one_if}
use Rattle.lldp_transmit.proofs.Splits.{newest, older, count-append, count_never, Lasts, lasts_reads, find_last, at_last}
use Rattle.lldp_transmit.proofs.Stops.{ticks_since}
use Rattle.lldp_transmit.proofs.Counters.{is_active-cons}
use Rattle.std.proofs.lemmas.Grind.{common_steps}

-- ---- an active port

-- at each start the port neither stops nor loses its link, and the link is up
abbrev AreApart : List Moment → Type 0
AreApart [] = Unit {0}
AreApart (m ∷ past) = (m.start ≡ true → (ends m ≡ false) × (is_up (m ∷ past) ≡ true)) × AreApart past

start_apart : (c : Cause) (x l u r : Bool) → (is_tick c && (l && (up_after c u && (not x && r)))) ≡ true → (((x && not l) || is_down c) ≡ false) × (up_after c u ≡ true)
start_apart Tick x l u r e = grind (arith, common_steps)
start_apart _ x l u r e = cc e

apart_moments : (s : Settings) (h : History) → AreApart (moments s h)
unfolding moment
apart_moments s [] = tt
apart_moments s (e ∷ h) = (start_apart e.cause (is_active (moments s h)) _ _ _, apart_moments s h)

apart_rest : (after rest : List Moment) → AreApart (after ++ rest) → AreApart rest
apart_rest [] rest a = a
apart_rest (x ∷ after) rest a = apart_rest after rest a.1

-- A port is active exactly if some start has no stop and no Down at it or after it.
active_lasts : (ms : List Moment) → IsTrue (is_active ms) ↔ Lasts (λ m. m.start) (λ _. false) ends ms
active_lasts = lasts_reads is_active (λ m. m.start) (λ _. false) ends refl is_active-cons

-- ---- a link that stays up

up_stays : (c : Cause) (x u : Bool) (n : ℕ) → one_if (x || is_down c) + n ≡ 0 → u ≡ true → up_after c u ≡ true
up_stays Up x u n e p = refl
up_stays Down x u n e p = grind (arith, common_steps)
up_stays _ x u n e p = p

up_on : (run before : List Moment) → is_up before ≡ true → count ends run ≡ 0 → is_up (run ++ before) ≡ true
up_on [] before u c = u
up_on (m ∷ run) before u c = up_stays m.cause m.stop _ (count ends run) c (up_on run before u (omega arith))

no_stop : (run : List Moment) → count ends run ≡ 0 → stops_in run ≡ 0
no_stop [] c = refl
no_stop (m ∷ run) c = grind (arith, common_steps, one_if, no_stop run (omega arith))

neither : (c : Cause) (x u : Bool) (n k : ℕ) → one_if x + n ≡ 0 → up_after c u ≡ true → k ≡ 0 → one_if (x || is_down c) + k ≡ 0
neither Down x u n k e p q = cc p
neither _ x u n k e p q = grind (arith, common_steps)

no_end : (run before : List Moment) → stops_in run ≡ 0 → StaysUp run before → count ends run ≡ 0
no_end [] before c u = refl
no_end (m ∷ run) before c u =
    neither m.cause m.stop (is_up (run ++ before)) (stops_in run) (count ends run) c (u (newest m run))
    (no_end run before (omega arith) (λ p. u (older m p)))

pub apart_reads : (ms : List Moment) → AreApart ms → IsTrue (is_active ms) ↔ HasStarted ms
apart_reads ms are_apart = (forth, back)
  where
    apart : (p : Position ms) → AreApart (p.there ∷ p.before)
    apart p = apart_rest p.after (p.there ∷ p.before) (rw p.is at are_apart)

    forth : IsTrue (is_active ms) → HasStarted ms
    forth a =
        let (p, start, _, none) = (active_lasts ms).0 a in
        let none_after : count ends p.after ≡ 0 = omega (arith, none) in (
          p,
          start,
          no_stop p.after none_after,
          λ q. up_on (q.there ∷ q.before) (p.there ∷ p.before) ((apart p).0 start).1 (omega (arith, none_after, ap (count ends) q.is, count-append ends q.after (q.there ∷ q.before))),
        )

    back : HasStarted ms → IsTrue (is_active ms)
    back (p, start, c, u) =
        (active_lasts ms).1 (p, start, count_never p.after, ap₂ (λ b n. one_if b + n) ((apart p).0 start).0 (no_end p.after (p.there ∷ p.before) c u))

pub active_reads : (s : Settings) (h : History) → IsTrue (is_active (moments s h)) ↔ HasStarted (moments s h)
active_reads s h = apart_reads (moments s h) (apart_moments s h)

-- ---- starts and links under another choice of marks

same_up : (s : Settings) (bs : List Bool) (ms : List Moment) → AreTimely s bs ms → is_up (with_marks bs ms) ≡ is_up ms
same_up s [] [] t = refl
same_up s (b ∷ bs) (m ∷ ms) t = ap (up_after m.cause) (same_up s bs ms t.1)
same_up s _ _ t = elim t [ ]

apart_marked : (s : Settings) (bs : List Bool) (ms : List Moment) → AreTimely s bs ms → AreApart ms → AreApart (with_marks bs ms)
apart_marked s [] [] t a = tt
apart_marked s (b ∷ bs) (m ∷ ms) t a =
    (λ start. ((a.0 start).0, same_up s (b ∷ bs) (m ∷ ms) t ∙ (a.0 start).1), apart_marked s bs ms t.1 a.1)
apart_marked s _ _ t a = elim t [ ]

pub chosen_reads : (s : Settings) (h : History) (e : Event) (bs : List Bool) → AreTimely s bs (moments s h) →
    IsTrue (is_active (moment s (moments s h) e ∷ with_marks bs (moments s h))) ↔ HasStarted (moment s (moments s h) e ∷ with_marks bs (moments s h))
chosen_reads s h e bs t =
    let a = apart_moments s (e ∷ h) in
    apart_reads (moment s (moments s h) e ∷ with_marks bs (moments s h))
    (λ start. ((a.0 start).0, ap (up_after (moment s (moments s h) e).cause) (same_up s bs (moments s h) t) ∙ (a.0 start).1), apart_marked s bs (moments s h) t a.1)

-- ---- the wait after a stop

stay : (b q : Bool) (k n t : ℕ) → q ≡ true → n ≤ t → ((b || q) ≡ true) × (cond b 0 (k + n) ≤ k + t)
stay true q k n t p l = (refl, omega arith)
stay false q k n t p l = (p, omega arith)

ticks_stay : (after : List Moment) (m : Moment) (before : List Moment) → IsTrue m.stop → (list_any (λ x. x.stop) (after ++ m ∷ before) ≡ true) × (ticks (since (λ x. x.stop) (after ++ m ∷ before)) ≤ ticks after)
ticks_stay [] m before p = grind (arith, common_steps, ticks_since, one_if)
ticks_stay (x ∷ after) m before p = grind (arith, common_steps, stay, one_if, ticks_since, ticks_stay after m before p)

pub rested_reads : (s : Settings) (past : List Moment) → IsTrue (rested s past) ↔ HasRested s past
rested_reads s past = (forth, λ h. back h (list_any (λ m. m.stop) past) refl)
  where
    forth : IsTrue (rested s past) → HasRested s past
    forth r p q =
        let t = ticks_stay p.after p.there p.before q in
        let long : IsTrue (rested s (p.after ++ p.there ∷ p.before)) = rw p.is at r in
        let enough : s.reinit ≤ 1 + ticks (since (λ m. m.stop) (p.after ++ p.there ∷ p.before)) = leb-true _ _ (rw t.0 at long) in
        omega (arith, t.1)

    back : HasRested s past → (b : Bool) → list_any (λ m. m.stop) past ≡ b → IsTrue (rested s past)
    back h false q = rw q refl
    back h true q =
        let w = find_last (λ m. m.stop) past q in
        let enough : s.reinit ≤ 1 + ticks (since (λ m. m.stop) past) = rw (at_last (λ m. m.stop) w.0 w.1 w.2).0 (h w.0 w.1) in
        or_right _ _ (le-leb _ _ enough)

-- ---- starts and stops

pub through : (A B C : Type 0) → (A ↔ B) → (B ↔ C) → A ↔ C
through A B C f g = (λ a. g.0 (f.0 a), λ c. f.1 (g.1 c))

-- if two tests are equivalent to two propositions, both tests hold exactly if both propositions do
pub and_reads : (a b : Bool) (P Q : Type 0) → (IsTrue a ↔ P) → (IsTrue b ↔ Q) → IsTrue (a && b) ↔ (P × Q)
and_reads a b P Q f g = (λ h. let p = and_parts a b h in (f.0 p.0, g.0 p.1), λ w. and_from a b (f.1 w.0) (g.1 w.1))

not_reads : (b : Bool) → IsTrue (not b) ↔ (b ≡ false)
not_reads true = (λ h. cc, λ h. cc)
not_reads false = (λ h. refl, λ h. refl)

pub stop_reads : (s : Settings) (h : History) (e : Event) → IsTrue (moment s (moments s h) e).stop ↔ IsStop s (moments s h) (moment s (moments s h) e)
unfolding moment
stop_reads s h e = and_reads _ _ _ _ (active_reads s h) (not_reads _)

pub is_tick_only : (c : Cause) → is_tick c ≡ true → c ≡ Tick
is_tick_only Tick e = refl
is_tick_only _ e = cc e

pub start_reads : (s : Settings) (h : History) (e : Event) → IsTrue (moment s (moments s h) e).start ↔ IsStart s (moments s h) (moment s (moments s h) e)
unfolding moment
start_reads s h e = grind (arith, common_steps, and_parts, is_tick_only, false≢true, not-true, active_reads, rested_reads, and_from, not_from_false, false_from_ne_true)
