-- The past of a newly opened agent is its options and no events.
use Rattle.std.proofs.Common.{◌≡◌, ℕ, zero, suc, ◌+◌, ◌<◌, ◌≤◌, true, List, [], ◌∷◌, ◌++◌, length, get_or, take, drop, map, Bor, refl, ap, arith}
use Rattle.std.specs.List.{list_all}
use Rattle.std.proofs.lemmas.Bool.{and_parts}
use Rattle.std.proofs.lemmas.Bool.Decides.{nat_tests}
use Rattle.lldp_table.specs.Events.{events_of}
use Rattle.lldp_table.proofs.Standing.Calls.{stands_open}
use Rattle.lldp_engine.specs.Options.{Options, InRange, is_port_name}
use Rattle.lldp_transmit.proofs.Standing.{stands_at_first}
use Rattle.lldp_engine.specs.Configuration.{configuration_at_opening}
use Rattle.lldp_engine.specs.AgentState.{AgentState, PortState}
use Rattle.lldp_engine.specs.Past.{opened, ports_after, agent_of}
use Rattle.lldp_engine.specs.Port.Past.{port_after}
use Rattle.lldp_engine.specs.Standing.{Stands}
use Rattle.lldp_engine.specs.Code.PortStep.{opened_port}
use Rattle.lldp_engine.proofs.OnePort.Counters.{counted_none}
use Rattle.lldp_engine.proofs.Standing.Carrying.{settings_in_range}
use Rattle.std.proofs.lemmas.Grind.{common_steps}

no_events : (limit : ℕ) → events_of limit [] ≡ []
unfolding events_of
no_events limit = refl

port_opened : (o : Options) (name : List ℕ) → InRange o → opened_port o name ≡ port_after o [] name
unfolding port_after
port_opened o name r = grind (arith, common_steps, stands_open, stands_at_first, settings_in_range, counted_none, no_events)

ports_opened : (o : Options) (i : ℕ) (names : List (List ℕ)) → InRange o → map (opened_port o) names ≡ ports_after o [] i names
ports_opened o i [] r = refl
ports_opened o i (name ∷ names) r = grind (arith, common_steps, port_opened, ports_opened o (i + 1) names r)

pub opened_stands : (o : Options) (agent : AgentState) → InRange o → agent.configuration ≡ configuration_at_opening o → agent.ports ≡ map (opened_port o) o.names → Stands (opened o) agent
unfolding agent_of
opened_stands o agent r c h = grind (arith, common_steps, ports_opened)

-- ## The next name

short_name : (name : List ℕ) → is_port_name name ≡ true → length name ≤ 15
short_name name h = grind (arith, nat_tests)

-- If all remaining names are valid, the next has at most 15 octets and the others are valid.
pub next_named : (names : List (Bor (List ℕ))) (i : ℕ) (none : Bor (List ℕ)) → i < length names → list_all is_port_name (map (λ n. n.now) (drop i names)) ≡ true
    → (length (get_or names i none).now ≤ 15) × (list_all is_port_name (map (λ n. n.now) (drop (suc i) names)) ≡ true)
next_named [] i none lt h = absurd (omega arith)
next_named (n ∷ ns) zero none lt h = let b = and_parts (is_port_name n.now) (list_all is_port_name (map (λ m. m.now) ns)) h in (short_name n.now b.0, b.1)
next_named (n ∷ ns) (suc i) none lt h = next_named ns i none (omega arith) h

next_taken : (f : List ℕ → PortState) (names : List (Bor (List ℕ))) (i : ℕ) (none : Bor (List ℕ)) → i < length names
    → map f (map (λ n. n.now) (take i names)) ++ f (get_or names i none).now ∷ [] ≡ map f (map (λ n. n.now) (take (suc i) names))
next_taken f [] i none lt = absurd (omega arith)
next_taken f (n ∷ ns) zero none lt = refl
next_taken f (n ∷ ns) (suc i) none lt = ap (λ (ps : List PortState). f n.now ∷ ps) (next_taken f ns i none (omega arith))

-- Appending the port of the next name gives the ports of one more name.
pub next_port : (f : List ℕ → PortState) (names : List (Bor (List ℕ))) (i : ℕ) (none : Bor (List ℕ)) (before after : List PortState) (port : PortState) (name : List ℕ) → i < length names
    → before ≡ map f (map (λ n. n.now) (take i names)) → name ≡ (get_or names i none).now → port ≡ f name → after ≡ before ++ port ∷ [] → after ≡ map f (map (λ n. n.now) (take (suc i) names))
next_port f names i none before after port name lt b n p a = rw (a, b, p, n) (next_taken f names i none lt)
