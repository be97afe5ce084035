-- The answer of a step is exactly what the definitions give for each port.
use Rattle.std.proofs.Common.{◌≡◌, ℕ, zero, suc, ◌+◌, ◌<◌, ◌≤◌, List, [], ◌∷◌, length, refl, ap, sym, ◌∙◌, subst, arith}
use Rattle.std.specs.List.{AllPairs, AllByRecursion, Contains}
use Rattle.std.proofs.lemmas.List.Elements.{All-from_recursion, All-contains}
use Rattle.std.proofs.lemmas.List.Kept.{AllPairs-cons}
use Rattle.std.specs.Prelude.{◌↔◌, IsTrue}
use Rattle.lldp_transmit.specs.declared.event.Mark.{Mark}
use Rattle.lldp_transmit.specs.declared.event.Mark.TheVariants.{Quiet, Ordinary, Shutdown}
use Rattle.lldp_transmit.specs.Moments.{moments}
use Rattle.lldp_transmit.proofs.Standing.{exact}
use Rattle.lldp_engine.specs.Options.{Options}
use Rattle.lldp_engine.specs.Event.{Event}
use Rattle.lldp_engine.specs.Frames.{IsSent}
use Rattle.lldp_engine.specs.AgentState.{AgentState}
use Rattle.lldp_engine.specs.Past.{Past, Sending, sending, happened, port_past, past_of, sent_from, marks_of, with_event}
use Rattle.lldp_engine.specs.Port.Past.{settings_of, caused_at, causes_after, mark_after}
use Rattle.lldp_engine.specs.Standing.{Stands}
use Rattle.lldp_engine.specs.Headline.{AnswersExactly, PromisedStep, IsEarlierPort, moment_now}
use Rattle.lldp_engine.proofs.Headline.Promise.{promised}
use Rattle.std.proofs.lemmas.Grind.{common_steps}

-- ## Elements of a list

contains_first : (x : Sending) (xs : List Sending) → Contains (x ∷ xs) x
contains_first x xs = (0, omega arith, refl)

contains_more : (x y : Sending) (xs : List Sending) → Contains xs y → Contains (x ∷ xs) y
contains_more x y xs h = (suc h.0, omega (arith, h.1), h.2)

-- ## Each mark in the answer is given by the definitions

-- Port x.0 exists, its number is at least s, and it sends x.1, which is not Quiet.
abbrev pub IsOf : Options → List Event → ℕ → Sending → Type 0
IsOf o events s x = (s ≤ x.0) × (x.0 < length o.names) × IsSent x.1 × (mark_after o (port_past x.0 events) ≡ x.1)

later_are : (o : Options) (events : List Event) (s : ℕ) (xs : List Sending) → AllByRecursion (IsOf o events (s + 1)) xs → AllByRecursion (IsOf o events s) xs
later_are o events s [] h = tt
later_are o events s (x ∷ xs) h = ((omega (arith, h.0.0), h.0.1, h.0.2, h.0.3), later_are o events s xs h.1)

one_is : (o : Options) (events : List Event) (s : ℕ) (mark : Mark) (others : List Sending) → s < length o.names → mark_after o (port_past s events) ≡ mark → AllByRecursion (IsOf o events s) others
    → AllByRecursion (IsOf o events s) (sending s mark others)
one_is o events s Quiet others lt e h = h
one_is o events s Ordinary others lt e h = ((omega arith, lt, tt, e), h)
one_is o events s Shutdown others lt e h = ((omega arith, lt, tt, e), h)

pub all_are : (o : Options) (events : List Event) (s : ℕ) (names : List (List ℕ)) → s + length names ≡ length o.names → AllByRecursion (IsOf o events s) (sent_from o events s names)
all_are o events s [] l = tt
all_are o events s (name ∷ names) l = grind (arith, common_steps, one_is, later_are, all_are o events (s + 1) names (omega arith))

-- ## Each mark given by the definitions is in the answer

first_is_there : (s : ℕ) (mark : Mark) (others : List Sending) → IsSent mark → Contains (sending s mark others) (s, mark)
first_is_there s Quiet others sent = absurd sent
first_is_there s Ordinary others sent = contains_first (s, Ordinary) others
first_is_there s Shutdown others sent = contains_first (s, Shutdown) others

other_is_there : (s : ℕ) (mark : Mark) (others : List Sending) (x : Sending) → Contains others x → Contains (sending s mark others) x
other_is_there s Quiet others x h = h
other_is_there s Ordinary others x h = contains_more (s, Ordinary) x others h
other_is_there s Shutdown others x h = contains_more (s, Shutdown) x others h

pub is_there : (o : Options) (events : List Event) (s d : ℕ) (names : List (List ℕ)) (mark : Mark) → d < length names → IsSent mark → mark_after o (port_past (s + d) events) ≡ mark
    → Contains (sent_from o events s names) (s + d, mark)
is_there o events s d [] mark lt sent e = absurd (omega arith)
is_there o events s zero (name ∷ names) mark lt sent e =
    let here : s + 0 ≡ s = omega arith in
    let is : mark_after o (port_past s events) ≡ mark = ap (λ k. mark_after o (port_past k events)) (sym here) ∙ e in
    subst (λ k. Contains (sent_from o events s (name ∷ names)) (k, mark)) (sym here) (rw is (first_is_there s mark (sent_from o events (s + 1) names) sent))
is_there o events s (suc d) (name ∷ names) mark lt sent e =
    let there : s + suc d ≡ s + 1 + d = omega arith in
    let is : mark_after o (port_past (s + 1 + d) events) ≡ mark = ap (λ k. mark_after o (port_past k events)) (sym there) ∙ e in
    other_is_there s (mark_after o (port_past s events)) (sent_from o events (s + 1) names) (s + suc d, mark)
    (subst (λ k. Contains (sent_from o events (s + 1) names) (k, mark)) (sym there) (is_there o events (s + 1) d names mark (omega arith) sent is))

-- ## The ports are in ascending order

before_all : (o : Options) (events : List Event) (s : ℕ) (mark : Mark) (xs : List Sending) → AllByRecursion (IsOf o events (s + 1)) xs → AllByRecursion (IsEarlierPort (s, mark)) xs
before_all o events s mark [] h = tt
before_all o events s mark (x ∷ xs) h = (omega (arith, h.0.0), before_all o events s mark xs h.1)

one_rises : (o : Options) (events : List Event) (s : ℕ) (mark : Mark) (others : List Sending) → AllByRecursion (IsOf o events (s + 1)) others → AllPairs IsEarlierPort others
    → AllPairs IsEarlierPort (sending s mark others)
one_rises o events s Quiet others h rising = rising
one_rises o events s Ordinary others h rising = grind (arith, common_steps, AllPairs-cons, All-from_recursion, before_all)
one_rises o events s Shutdown others h rising = grind (arith, common_steps, AllPairs-cons, All-from_recursion, before_all)

all_rise : (o : Options) (events : List Event) (s : ℕ) (names : List (List ℕ)) → s + length names ≡ length o.names → AllPairs IsEarlierPort (sent_from o events s names)
all_rise o events s [] l = λ i j d lt within. absurd (omega (arith, within))
all_rise o events s (name ∷ names) l =
    one_rises o events s (mark_after o (port_past s events)) _ (all_are o events (s + 1) names (omega arith)) (all_rise o events (s + 1) names (omega arith))

-- ## The answer of a step

module _ (past : Past) (event : Event) where
  abbrev now : List Sending
  now = marks_of (with_event past event)

  abbrev after : List Event
  after = event ∷ past.events

  is_of : (x : Sending) → Contains now x → IsOf past.options after 0 x
  is_of x h = All-contains (IsOf past.options after 0) now x (All-from_recursion (IsOf past.options after 0) now (all_are past.options after 0 past.options.names (omega arith))) h

  there : (i : ℕ) (mark : Mark) → i < length past.options.names → IsSent mark → mark_after past.options (port_past i after) ≡ mark → Contains now (i, mark)
  there i mark lt sent e =
      let place : 0 + i ≡ i = omega arith in
      let is : mark_after past.options (port_past (0 + i) after) ≡ mark = ap (λ k. mark_after past.options (port_past k after)) place ∙ e in
      subst (λ k. Contains now (k, mark)) place (is_there past.options after 0 i past.options.names mark lt sent is)

  shorter : (xs : List Sending) → AllByRecursion (IsOf past.options after 0) xs → AllByRecursion (λ x. (x.0 < length past.options.names) × IsSent x.1) xs
  shorter [] h = tt
  shorter (x ∷ xs) h = ((h.0.1, h.0.2), shorter xs h.1)

  marked : (i : ℕ) → ((mark_after past.options (port_past i after) ≡ Ordinary) ↔ IsTrue (moment_now past event i).sent)
      × ((mark_after past.options (port_past i after) ≡ Shutdown) ↔ IsTrue (moment_now past event i).stop)
  marked i =
      let s = settings_of past.options in
      let earlier = past_of past i in
      exact s (moments s (causes_after past.options earlier)) (caused_at past.options (happened i event past.events) earlier) (mark_after past.options (port_past i after)) refl

  answers_exactly : AnswersExactly past event now
  answers_exactly = record {
    ordinary = λ i lt. (λ h. (marked i).0.0 (is_of (i, Ordinary) h).3, λ sent. there i Ordinary lt tt ((marked i).0.1 sent));
    shutdown = λ i lt. (λ h. (marked i).1.0 (is_of (i, Shutdown) h).3, λ stop. there i Shutdown lt tt ((marked i).1.1 stop));
    only = shorter now (all_are past.options after 0 past.options.names (omega arith));
    rising = all_rise past.options after 0 past.options.names (omega arith);
  }

pub promised_step : (past : Past) (event : Event) (marks : List Sending) (agent : AgentState) → marks ≡ marks_of (with_event past event) → Stands (with_event past event) agent
    → PromisedStep past event marks agent
promised_step past event marks agent e h = grind (arith, common_steps, answers_exactly, promised)
