-- How an event for one port or for each port changes the list of ports.
use Rattle.std.proofs.Common.{◌≡◌, ℕ, zero, suc, ◌+◌, ◌<◌, ◌≤◌, Bool, true, false, List, [], ◌∷◌, ◌++◌, length, get_or, set, take, drop, refl, ap, sym, subst, arith, append-nil}
use Rattle.std.specs.Prelude.{◌==◌, if◌then◌else◌}
use Rattle.std.specs.List.{AllByRecursion}
use Rattle.std.proofs.lemmas.List.{take_all}
use Rattle.std.proofs.Math.ListN.{drop_of_length-le}
use Rattle.std.proofs.lemmas.Bool.Decides.{nat_tests}
use Rattle.lldp_transmit.specs.declared.event.Mark.{Mark}
use Rattle.lldp_transmit.specs.declared.event.Mark.TheVariants.{Quiet, Ordinary, Shutdown}
use Rattle.lldp_engine.specs.AgentState.{PortState}
use Rattle.lldp_engine.specs.Past.{Sending, sending}
use Rattle.lldp_engine.specs.Port.Event.{PortEvent, nothing}
use Rattle.lldp_engine.specs.Code.PortStep.{port_step, port_mark}
use Rattle.lldp_engine.specs.Code.Step.{ports_step, marks_step}
use Rattle.std.proofs.lemmas.Grind.{common_steps}
use Rattle.lldp_engine.specs.Code.Whose.{one_port, each_port, of_port}

-- P holds for `if b then event else nothing` if it holds for `event` and for `nothing`.
pub own_or_nothing : (P : PortEvent → Type 0) (b : Bool) (event : PortEvent) → P event → P nothing → P (if b then event else nothing)
own_or_nothing P true event own none = own
own_or_nothing P false event own none = none

-- ## An event for one port

other : (event : PortEvent) (q i : ℕ) → (q ≡ i → ⊥) → of_port i (one_port q event) ≡ nothing
other event q i h = let no : (q == i) ≡ false = grind (arith, nat_tests) in rw no refl

own : (event : PortEvent) (q : ℕ) → of_port q (one_port q event) ≡ event
own event q = let yes : (q == q) ≡ true = grind (arith, nat_tests) in rw yes refl

-- An event for one port does not change another port.
after_other : (event : PortEvent) (n q i : ℕ) (p : PortState) → (q ≡ i → ⊥) → port_step (of_port i (one_port q event)) n p ≡ p
after_other event n q i p h = ap (λ (e : PortEvent). port_step e n p) (other event q i h)

mark_of_other : (event : PortEvent) (n q i : ℕ) (p : PortState) → (q ≡ i → ⊥) → port_mark (of_port i (one_port q event)) n p ≡ Quiet
mark_of_other event n q i p h = ap (λ (e : PortEvent). port_mark e n p) (other event q i h)

later_same : (event : PortEvent) (n q s : ℕ) (ports : List PortState) → q < s → ports_step (one_port q event) n s ports ≡ ports
later_same event n q s [] lt = refl
later_same event n q s (p ∷ ps) lt = rw (after_other event n q s p (omega arith), later_same event n q (s + 1) ps (omega arith)) refl

later_silent : (event : PortEvent) (n q s : ℕ) (ports : List PortState) → q < s → marks_step (one_port q event) n s ports ≡ []
later_silent event n q s [] lt = refl
later_silent event n q s (p ∷ ps) lt = rw (mark_of_other event n q s p (omega arith)) (later_silent event n q (s + 1) ps (omega arith))

one_after : (event : PortEvent) (n s k q : ℕ) (ports : List PortState) (p : PortState) → q ≡ s + k → k < length ports → p ≡ get_or ports k p
    → set ports k (port_step event n p) ≡ ports_step (one_port q event) n s ports
one_after event n s k q [] p h lt a = absurd (omega arith)
one_after event n s zero q (x ∷ xs) p h lt a = grind (arith, common_steps, own, later_same)
one_after event n s (suc k) q (x ∷ xs) p h lt a = grind (arith, common_steps, after_other, one_after event n (s + 1) k q xs p (omega arith) (omega arith) a)

one_mark : (event : PortEvent) (n s k q : ℕ) (ports : List PortState) (p : PortState) → q ≡ s + k → k < length ports → p ≡ get_or ports k p
    → sending q (port_mark event n p) [] ≡ marks_step (one_port q event) n s ports
one_mark event n s k q [] p h lt a = absurd (omega arith)
one_mark event n s zero q (x ∷ xs) p h lt a = grind (arith, common_steps, own, later_silent)
one_mark event n s (suc k) q (x ∷ xs) p h lt a = grind (arith, common_steps, mark_of_other, one_mark event n (s + 1) k q xs p (omega arith) (omega arith) a)

-- Replacing port q by its state after an event for it gives the ports after that event.
pub one_port_after : (event : PortEvent) (n q : ℕ) (ports : List PortState) (p : PortState) → q < length ports → p ≡ get_or ports q p
    → set ports q (port_step event n p) ≡ ports_step (one_port q event) n 0 ports
one_port_after event n q ports p lt at = one_after event n 0 q q ports p (omega arith) lt at

pub one_port_marks : (event : PortEvent) (n q : ℕ) (ports : List PortState) (p : PortState) → q < length ports → p ≡ get_or ports q p
    → sending q (port_mark event n p) [] ≡ marks_step (one_port q event) n 0 ports
one_port_marks event n q ports p lt at = one_mark event n 0 q q ports p (omega arith) lt at

-- ## An event for each port

-- the ports when the first i of them have handled the event and the others have not
abbrev pub so_far : PortEvent → ℕ → ℕ → List PortState → List PortState
so_far event n i ports = ports_step (each_port event) n 0 (take i ports) ++ drop i ports

sending-append : (i : ℕ) (mark : Mark) (xs ys : List Sending) → sending i mark (xs ++ ys) ≡ sending i mark xs ++ ys
sending-append i Quiet xs ys = refl
sending-append i Ordinary xs ys = refl
sending-append i Shutdown xs ys = refl

next_step : (event : PortEvent) (n s i : ℕ) (ports : List PortState) (p : PortState) → i < length ports → p ≡ get_or (ports_step (each_port event) n s (take i ports) ++ drop i ports) i p
    → set (ports_step (each_port event) n s (take i ports) ++ drop i ports) i (port_step event n p) ≡ ports_step (each_port event) n s (take (suc i) ports) ++ drop (suc i) ports
next_step event n s i [] p lt h = absurd (omega arith)
next_step event n s zero (x ∷ xs) p lt h = rw h refl
next_step event n s (suc i) (x ∷ xs) p lt h = ap (λ (ps : List PortState). port_step event n x ∷ ps) (next_step event n (s + 1) i xs p (omega arith) h)

next_mark : (event : PortEvent) (n s i k : ℕ) (ports : List PortState) (p : PortState) → k ≡ s + i → i < length ports → p ≡ get_or (ports_step (each_port event) n s (take i ports) ++ drop i ports) i p
    → marks_step (each_port event) n s (take i ports) ++ sending k (port_mark event n p) [] ≡ marks_step (each_port event) n s (take (suc i) ports)
next_mark event n s i k [] p e lt h = absurd (omega arith)
next_mark event n s zero k (x ∷ xs) p e lt h = let place : k ≡ s = omega arith in rw (place, h) refl
next_mark event n s (suc i) k (x ∷ xs) p e lt h = grind (arith, common_steps, sending-append, next_mark event n (s + 1) i k xs p (omega arith) (omega arith) h)

-- When port i also handles the event, the first i + 1 ports have done so, and the marks are theirs.
pub one_more : (event : PortEvent) (n i : ℕ) (ports : List PortState) (p q : PortState) (mark : Mark) → i < length ports → p ≡ get_or (so_far event n i ports) i p
    → q ≡ port_step event n p → mark ≡ port_mark event n p
    → (set (so_far event n i ports) i q ≡ so_far event n (suc i) ports)
    × (marks_step (each_port event) n 0 (take i ports) ++ sending i mark [] ≡ marks_step (each_port event) n 0 (take (suc i) ports))
one_more event n i ports p q mark lt h a m = (rw a (next_step event n 0 i ports p lt h), rw m (next_mark event n 0 i i ports p (omega arith) lt h))

-- If P holds for each port at first, it holds for port i before port i handles the event.
pub at_turn : (P : PortState → Type 0) (event : PortEvent) (n s i : ℕ) (ports : List PortState) (p : PortState) → i < length ports → p ≡ get_or (ports_step (each_port event) n s (take i ports) ++ drop i ports) i p
    → AllByRecursion P ports → P p
at_turn P event n s i [] p lt h all = absurd (omega arith)
at_turn P event n s zero (x ∷ xs) p lt h all = subst P (sym h) all.0
at_turn P event n s (suc i) (x ∷ xs) p lt h all = at_turn P event n (s + 1) i xs p (omega arith) h all.1

pub all_taken : (event : PortEvent) (n i : ℕ) (ports : List PortState) → length ports ≤ i → (so_far event n i ports ≡ ports_step (each_port event) n 0 ports) × (take i ports ≡ ports)
all_taken event n i ports h = (rw (take_all i ports h, drop_of_length-le ports h) (append-nil _), take_all i ports h)
