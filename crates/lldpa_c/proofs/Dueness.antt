-- The next tick at which a port sends or a neighbor ages out.
use Rattle.std.proofs.Common.{◌≡◌, ℕ, zero, suc, ◌+◌, ◌-◌, ◌^◌, ◌<◌, ◌≤◌, Bool, true, false, inl, inr, List, [], ◌∷◌, length, map, drop, Some, refl, sym, ap, subst, ◌∙◌, arith}
use Rattle.std.specs.Prelude.{◌⊎◌, Option, None, max, nat_lt, slice_get}
use Rattle.std.specs.List.{filter_map}
use Rattle.std.specs.Option.{option_map}
use Rattle.std.proofs.Math.Nat.{mod-mod}
use Rattle.std.proofs.Math.ListN.{drop_of_length-le}
use Rattle.std.proofs.lemmas.Bool.{cases_lt, lt-ltb, le-ltb}
use Rattle.std.proofs.lemmas.Bool.Decides.{nat_tests}
use Rattle.lldp_table.specs.Events.{Neighbor}
use Rattle.lldp_table.specs.Contents.{Contents, sooner, least_left}
use Rattle.lldp_table.proofs.Ageing.Soonest.{sooner_assoc}
use Rattle.lldp_table.specs.Code.Steps.{aged}
use Rattle.lldp_transmit.specs.declared.event.Mark.{Mark}
use Rattle.lldp_transmit.specs.declared.event.Mark.TheVariants.{Quiet}
use Rattle.lldp_transmit.specs.Code.Machine.{Machine, ticked as machine_ticked}
use Rattle.lldp_transmit.specs.Standing.{machine_of}
use Rattle.lldp_engine.specs.AgentState.{AgentState, PortState}
use Rattle.lldp_engine.specs.Event.{Event, tick}
use Rattle.lldp_engine.specs.Options.{Options}
use Rattle.lldp_engine.specs.Past.{Past, sending, port_past, ports_after}
use Rattle.lldp_engine.proofs.Standing.Carrying.{carries}
use Rattle.lldp_engine.specs.Port.Past.{Happened, port_after}
use Rattle.lldp_engine.proofs.Readers.{ports_are}
use Rattle.lldp_engine.specs.Standing.{Stands}
use Rattle.lldp_engine.specs.Port.Event.{tick as port_tick}
use Rattle.lldp_engine.specs.declared.port.counters.Counters.{Counters}
use Rattle.lldp_engine.specs.Counters.{wrapped}
use Rattle.lldp_engine.specs.Code.Counting.{with_aged_out, with_mark}
use Rattle.lldp_engine.specs.Code.PortStep.{port_step, port_mark}
use Rattle.lldp_engine.specs.Code.Step.{ports_step, marks_step}
use Rattle.lldpa_c.specs.Ticks.{held_by, ticked, with_ticks, IsQuiet}
use Rattle.lldpa_c.specs.Due.{until_sends, due_on, timeless_machine, timeless_counters, timeless_neighbors, timeless_port, timeless, IsDue}
use Rattle.lldpa_c.specs.declared.due.TheConstants.{NEVER}
use Rattle.lldpa_c.proofs.Ticking.{no_longer, fewer, held_step}
use Rattle.lldp_engine.specs.Code.Whose.{each_port}

-- ---- the smaller of two numbers

-- a number of ticks, reduced by k
abbrev fewer_by : ℕ → Option ℕ → Option ℕ
fewer_by k None = None
fewer_by k (Some d) = Some (d - k)

-- nothing is due within the next k ticks; 0 and 1 both mean the next tick
abbrev IsAfter : ℕ → Option ℕ → Type 0
IsAfter k None = Unit {0}
IsAfter k (Some d) = k < max d 1

-- something is due at the next tick
abbrev IsNext : Option ℕ → Type 0
IsNext None = ⊥
IsNext (Some d) = d ≤ 1

both_after : (a b : Option ℕ) → IsAfter 1 (sooner a b) → IsAfter 1 a × IsAfter 1 b
both_after None b h = (tt, h)
both_after (Some a) None h = (h, tt)
both_after (Some a) (Some b) h = (omega arith, omega arith)

one_next : (a b : Option ℕ) → IsNext (sooner a b) → IsNext a ⊎ IsNext b
one_next None b h = inr h
one_next (Some a) None h = inl h
one_next (Some a) (Some b) h = elim (cases_lt a 2) [ inl less ↦ inl (omega arith) | inr more ↦ inr (omega arith) ]

fewer_sooner : (a b : Option ℕ) → sooner (fewer_by 1 a) (fewer_by 1 b) ≡ fewer_by 1 (sooner a b)
fewer_sooner (Some a) (Some b) = ap (λ (n : ℕ). Some n) (omega arith)
fewer_sooner None b = refl
fewer_sooner a None = refl

both_fewer : (a a' b b' : Option ℕ) → a' ≡ fewer_by 1 a → b' ≡ fewer_by 1 b → sooner a' b' ≡ fewer_by 1 (sooner a b)
both_fewer a a' b b' e f = rw (e, f) (fewer_sooner a b)

-- ---- a machine

-- a tick sends nothing, leaves one tick fewer, and changes only the credit and the clocks
record Waits (n : ℕ) (m : Machine) : Type 0 where
  sends : (machine_ticked m n).1 ≡ Quiet
  due : until_sends (machine_ticked m n).0 ≡ fewer_by 1 (until_sends m)
  same : timeless_machine (machine_ticked m n).0 ≡ timeless_machine m

module _ (n : ℕ) (m : Machine) where
  abbrev so : (waiting active allowed up : Bool) → Machine
  so waiting active allowed up = record m { waiting = waiting; active = active; allowed = allowed; up = up }

  waits_so : (waiting active allowed up : Bool) → IsAfter 1 (until_sends (so waiting active allowed up)) → Waits n (so waiting active allowed up)
  waits_so true true allowed up h = absurd (omega arith)
  waits_so _ _ _ _ h = grind (arith, nat_tests)

  waits : IsAfter 1 (until_sends m) → Waits n m
  waits h = waits_so m.waiting m.active m.allowed m.up h

  sends_so : (waiting active allowed up : Bool) → 1 ≤ m.credit_max → IsNext (until_sends (so waiting active allowed up)) → (machine_ticked (so waiting active allowed up) n).1 ≡ Quiet → ⊥
  sends_so waiting false false up c h q = absurd h
  sends_so waiting false true false c h q = absurd h
  sends_so _ _ _ _ c h q = grind (arith, nat_tests)

  sends : 1 ≤ m.credit_max → IsNext (until_sends m) → (machine_ticked m n).1 ≡ Quiet → ⊥
  sends c h q = sends_so m.waiting m.active m.allowed m.up c h q

-- ---- neighbors

-- at a tick no neighbor ages out, and only the seconds that are left change
record Stay (ns : List Neighbor) : Type 0 where
  number : length (filter_map aged ns) ≡ length ns
  due : least_left (filter_map aged ns) ≡ fewer_by 1 (least_left ns)
  same : timeless_neighbors (filter_map aged ns) ≡ timeless_neighbors ns

neighbors_stay : (ns : List Neighbor) → IsAfter 1 (least_left ns) → Stay ns
neighbors_stay [] h = record { number = refl; due = refl; same = refl }
neighbors_stay (x ∷ xs) h =
    let b = both_after (Some x.left) (least_left xs) h in
    let more : nat_lt 1 x.left ≡ true = lt-ltb 1 x.left (omega (arith, b.0)) in
    let others = neighbors_stay xs b.1 in
    let y : Neighbor = record x { left = 0 } in
    record {
      number = rw more (ap suc others.number);
      due = rw more (both_fewer (Some x.left) (Some (x.left - 1)) (least_left xs) (least_left (filter_map aged xs)) refl others.due);
      same = rw more (ap (λ (ys : List Neighbor). y ∷ ys) others.same);
    }

neighbors_go : (ns : List Neighbor) → IsNext (least_left ns) → length (filter_map aged ns) < length ns
neighbors_go [] h = absurd h
neighbors_go (x ∷ xs) h = elim (one_next (Some x.left) (least_left xs) h) [
  | inl here ↦
      let gone : nat_lt 1 x.left ≡ false = le-ltb 1 x.left here in
      rw gone (omega (arith, fewer aged xs))
  | inr there ↦ omega (arith, no_longer (aged x) (filter_map aged xs), neighbors_go xs there)
]

-- ---- ports

abbrev due_of : PortState → Option ℕ
due_of p = sooner (least_left p.table.neighbors) (until_sends p.machine)

-- a port after a tick
abbrev next : ℕ → PortState → PortState
next n p = port_step port_tick n p

-- at a tick no port sends, no neighbor ages out, and only credits and clocks change
record AreQuiet (n i : ℕ) (ports : List PortState) : Type 0 where
  sends : marks_step (each_port port_tick) n i ports ≡ []
  ages : held_by (ports_step (each_port port_tick) n i ports) ≡ held_by ports
  due : due_on (ports_step (each_port port_tick) n i ports) ≡ fewer_by 1 (due_on ports)
  same : map timeless_port (ports_step (each_port port_tick) n i ports) ≡ map timeless_port ports

quiet_sends : (i : ℕ) (mark : Mark) (others : List (ℕ × Mark)) → mark ≡ Quiet → others ≡ [] → sending i mark others ≡ []
quiet_sends i mark others e f = rw (e, f) refl

counted_same : (c : Counters) (mark : Mark) (n : ℕ) → mark ≡ Quiet → n ≡ 0 → timeless_counters (with_mark (with_aged_out c n) mark) ≡ timeless_counters c
counted_same c mark n e f =
    let twice : wrapped (wrapped (c.ageouts + 0)) ≡ wrapped c.ageouts = mod-mod (c.ageouts + 0) (2 ^ 32) ∙ ap wrapped (omega arith) in
    rw (e, f) (ap (λ (a : ℕ). record c { ageouts = a }) twice)

port_same : (n : ℕ) (p : PortState) → Stay p.table.neighbors → Waits n p.machine → timeless_port (next n p) ≡ timeless_port p
port_same n p stay wait =
    let gone = length p.table.neighbors - length (filter_map aged p.table.neighbors) in
    let none : gone ≡ 0 = omega (arith, stay.number) in
    cc (stay.same, wait.same, counted_same p.counters (machine_ticked p.machine n).1 gone wait.sends none)

are_quiet : (n i : ℕ) (ports : List PortState) → IsAfter 1 (due_on ports) → AreQuiet n i ports
are_quiet n i [] h = record { sends = refl; ages = refl; due = refl; same = refl }
are_quiet n i (p ∷ ports) h =
    let b = both_after (due_of p) (due_on ports) h in
    let own = both_after (least_left p.table.neighbors) (until_sends p.machine) b.0 in
    let stay = neighbors_stay p.table.neighbors own.0 in
    let wait = waits n p.machine own.1 in
    let others = are_quiet n (i + 1) ports b.1 in
    record {
      sends = quiet_sends i _ _ wait.sends others.sends;
      ages = omega (arith, stay.number, others.ages);
      due = both_fewer (due_of p) (due_of (next n p)) (due_on ports) _ (both_fewer (least_left p.table.neighbors) _ (until_sends p.machine) _ stay.due wait.due) others.due;
      same = cc (port_same n p stay wait, others.same);
    }

-- the credit_max of each port is at least 1
abbrev HaveCredit : List PortState → Type 0
HaveCredit [] = Unit {0}
HaveCredit (p ∷ ports) = (1 ≤ p.machine.credit_max) × HaveCredit ports

sent_first : (i : ℕ) (mark : Mark) (others : List (ℕ × Mark)) → sending i mark others ≡ [] → (mark ≡ Quiet) × (others ≡ [])
sent_first i Quiet others e = (refl, e)
sent_first i _ others e = cc

are_loud : (n i : ℕ) (ports : List PortState) → HaveCredit ports → IsNext (due_on ports) → marks_step (each_port port_tick) n i ports ≡ []
    → held_by (ports_step (each_port port_tick) n i ports) ≡ held_by ports → ⊥
are_loud n i [] c h none same = absurd h
are_loud n i (p ∷ ports) c h none same =
    let sent = sent_first i (port_mark port_tick n p) (marks_step (each_port port_tick) n (i + 1) ports) none in
    elim (one_next (due_of p) (due_on ports) h) [
      | inl here ↦ elim (one_next (least_left p.table.neighbors) (until_sends p.machine) here) [
        | inl ages ↦ omega (arith, neighbors_go p.table.neighbors ages, held_step n (i + 1) ports, same)
        | inr goes ↦ sends n p.machine c.0 goes sent.0
      ]
      | inr there ↦ are_loud n (i + 1) ports c.1 there sent.1 (omega (arith, fewer aged p.table.neighbors, held_step n (i + 1) ports, same))
    ]

-- ---- agents

abbrev due_in : AgentState → Option ℕ
due_in agent = due_on agent.ports

after_zero : (o : Option ℕ) → o ≡ fewer_by 0 o
after_zero None = refl
after_zero (Some d) = ap (λ (n : ℕ). Some n) (omega arith)

after_more : (k : ℕ) (o : Option ℕ) → fewer_by 1 (fewer_by k o) ≡ fewer_by (suc k) o
after_more k None = refl
after_more k (Some d) = ap (λ (n : ℕ). Some n) (omega arith)

after_less : (k : ℕ) (o : Option ℕ) → IsAfter (suc k) o → IsAfter k o × IsAfter 1 (fewer_by k o)
after_less k None h = (tt, tt)
after_less k (Some d) h = (omega arith, omega arith)

-- k ticks leave k ticks fewer until something is due, and change only credits and clocks
record Waited (k : ℕ) (agent : AgentState) : Type 0 where
  due : due_in (ticked k agent) ≡ fewer_by k (due_in agent)
  same : timeless (ticked k agent) ≡ timeless agent

-- if nothing is due within k + 1 ticks, the last of these ticks is quiet
quiet_behind : (k : ℕ) (agent : AgentState) → IsAfter (suc k) (due_in agent) → Waited k agent → AreQuiet (ticked k agent).configuration.interval 0 (ticked k agent).ports
quiet_behind k agent h before = are_quiet _ 0 (ticked k agent).ports (subst (IsAfter 1) (sym before.due) (after_less k (due_in agent) h).1)

waited : (k : ℕ) (agent : AgentState) → IsAfter k (due_in agent) → Waited k agent
waited zero agent h = record { due = after_zero (due_in agent); same = refl }
waited (suc k) agent h =
    let before = waited k agent (after_less k (due_in agent) h).0 in
    let quiet = quiet_behind k agent h before in
    record { due = quiet.due ∙ ap (fewer_by 1) before.due ∙ after_more k (due_in agent); same = cc (quiet.same, before.same) }

quiet_before : (k : ℕ) (agent : AgentState) → IsAfter (suc k) (due_in agent) → IsQuiet (ticked k agent)
quiet_before k agent h =
    let quiet = quiet_behind k agent h (waited k agent (after_less k (due_in agent) h).0) in
    record { sends = quiet.sends; ages = quiet.ages }

-- ---- agents whose state is the result of past events

credit_of : (o : Options) (past : List Happened) (name : List ℕ) → (port_after o past name).machine.credit_max ≡ o.credit_max
unfolding port_after machine_of
credit_of o past name = refl

credit_named : (o : Options) (events : List Event) (i : ℕ) (names : List (List ℕ)) → 1 ≤ o.credit_max → HaveCredit (ports_after o events i names)
credit_named o events i [] h = tt
credit_named o events i (name ∷ names) h = (omega (arith, credit_of o (port_past i events) name), credit_named o events (i + 1) names h)

pub stands_ticked : (k : ℕ) (past : Past) (agent : AgentState) → Stands past agent → Stands (with_ticks k past) (ticked k agent)
stands_ticked zero past agent h = h
stands_ticked (suc k) past agent h = carries (with_ticks k past) tick (ticked k agent) (stands_ticked k past agent h) tt tt

has_credit : (past : Past) (agent : AgentState) → Stands past agent → HaveCredit agent.ports
has_credit past agent h =
    subst HaveCredit (sym (ports_are past agent h)) (credit_named past.options past.events 0 past.options.names h.in_range.credit.0)

loud_at : (k d : ℕ) (agent : AgentState) (past : Past) → Stands past agent → due_in agent ≡ Some d → k ≡ max d 1 - 1 → IsQuiet (ticked k agent) → ⊥
loud_at k d agent past h e f q =
    let after : due_in (ticked k agent) ≡ Some (d - k) = (waited k agent (rw e (omega arith))).due ∙ ap (fewer_by k) e in
    are_loud _ 0 (ticked k agent).ports (has_credit (with_ticks k past) (ticked k agent) (stands_ticked k past agent h)) (rw after (omega arith)) q.sends q.ages

-- if k ticks are quiet, they change only credits and clocks
pub quiet_ticks : (k : ℕ) (agent : AgentState) (past : Past) → Stands past agent → ((j : ℕ) → j < k → IsQuiet (ticked j agent)) → timeless (ticked k agent) ≡ timeless agent
quiet_ticks k agent past h quiet = (waited k agent (after (due_in agent) refl)).same
  where
    after : (o : Option ℕ) → due_in agent ≡ o → IsAfter k (due_in agent)
    after None e = rw e tt
    after (Some d) e = elim (cases_lt k (max d 1)) [
      | inl less ↦ rw e less
      | inr more ↦ absurd (loud_at (max d 1 - 1) d agent past h e refl (quiet (max d 1 - 1) (omega (arith, more))))
    ]

pub is_due : (agent : AgentState) (d : ℕ) → due_on agent.ports ≡ Some d → d < 65536 → IsDue agent (max d 1)
is_due agent d e few = record {
  first = omega arith;
  quiet = λ k h. quiet_before k agent (rw e (omega arith));
  same = λ k h. (waited k agent (rw e h)).same;
  never = λ same. absurd (omega arith);
  there = λ _ past h. loud_at (max d 1 - 1) d agent past h e refl;
}

pub none_is_due : (agent : AgentState) → due_on agent.ports ≡ None → IsDue agent NEVER
none_is_due agent e = record {
  first = omega arith;
  quiet = λ k h. quiet_before k agent (rw e tt);
  same = λ k h. (waited k agent (rw e tt)).same;
  never = λ _ k. quiet_before k agent (rw e tt);
  there = λ less. absurd (omega arith);
}

-- ---- steps of the loop over ports

sooner_none : (o : Option ℕ) → sooner o None ≡ o
sooner_none None = refl
sooner_none (Some d) = refl

due_here : (ports : List PortState) (i : ℕ) (table : Contents) (m : Machine) → option_map (λ (p : PortState). p.table) (slice_get ports i) ≡ Some table
    → option_map (λ (p : PortState). p.machine) (slice_get ports i) ≡ Some m
    → due_on (drop i ports) ≡ sooner (sooner (least_left table.neighbors) (until_sends m)) (due_on (drop (suc i) ports))
due_here [] i table m h k = absurd cc
due_here (p ∷ ports) zero table m h k =
    let one : p.table ≡ table = cc in
    let other : p.machine ≡ m = cc in
    rw (← one, ← other) refl
due_here (p ∷ ports) (suc i) table m h k = due_here ports i table m h k

pub due_more : (due found one left sends : Option ℕ) (ports : List PortState) (i : ℕ) (table : Contents) (m : Machine) → found ≡ sooner due one → one ≡ sooner left sends
    → left ≡ least_left table.neighbors → sends ≡ until_sends m → option_map (λ (p : PortState). p.table) (slice_get ports i) ≡ Some table
    → option_map (λ (p : PortState). p.machine) (slice_get ports i) ≡ Some m → sooner due (due_on (drop i ports)) ≡ due_on ports → sooner found (due_on (drop (i + 1) ports)) ≡ due_on ports
due_more due found one left sends ports i table m e f g s t u h =
    let here = due_here ports i table m t u in
    let same : i + 1 ≡ suc i = omega arith in
    rw (same, e, f, g, s) (sooner_assoc due _ (due_on (drop (suc i) ports)) ∙ ap (sooner due) (sym here) ∙ h)

pub due_all : (due : Option ℕ) (ports : List PortState) (i : ℕ) → length ports ≤ i → sooner due (due_on (drop i ports)) ≡ due_on ports → due ≡ due_on ports
due_all due ports i past h =
    let none : drop i ports ≡ [] = drop_of_length-le ports past in
    sym (sooner_none due) ∙ (rw none at h)
