-- Events that an agent allows are possible for each of its ports.
use Rattle.std.proofs.Common.{◌≡◌, ℕ, zero, suc, ◌+◌, ◌<◌, ◌≤◌, true, List, [], ◌∷◌, length, Option, Some, None, refl, ◌∙◌, subst, arith, add-zero}
use Rattle.std.specs.Prelude.{◌==◌, IfSome, nat_le}
use Rattle.std.specs.List.{cons_option}
use Rattle.std.proofs.lemmas.Bool.{and_parts}
use Rattle.std.proofs.lemmas.Bool.Decides.{nat_tests}
use Rattle.lldp_table.specs.Events.{Call}
use Rattle.lldp_table.specs.Contents.{Contents}
use Rattle.lldp_table.specs.Standing.{table_of, IsPossible, ArePossible, IsNewLimit, Stands as TableStands}
use Rattle.lldp_table.proofs.Standing.Lists.{stands_left}
use Rattle.lldp_engine.specs.Options.{Options, InRange}
use Rattle.lldp_engine.specs.Event as agent
use Rattle.lldp_engine.specs.Event.{Event}
use Rattle.lldp_engine.specs.Configuration.{Configuration, configured}
use Rattle.lldp_engine.specs.AgentState.{Allows, fits, AcceptsLimit}
use Rattle.lldp_engine.specs.Past.{configuration_after, port_past, ports_after, agent_of, AreAllowed}
use Rattle.lldp_engine.specs.Port.Event.{PortEvent, frame, link, status, for_port}
use Rattle.lldp_engine.specs.Port.Effects.{call_at}
use Rattle.lldp_engine.specs.Port.Past.{Happened, status_after, up_after, calls_after, port_after}
use Rattle.lldp_engine.specs.Code.Taking.{FitsLimit}
use Rattle.lldp_engine.proofs.OnePort.Heard.{event_told, octets_for}
use Rattle.lldp_engine.proofs.AllPorts.EachPort.{own_or_nothing}
use Rattle.std.proofs.lemmas.Grind.{common_steps}

-- ## The limit at opening never changes

pub configured-capacity : (event : Event) (c : Configuration) → (configured event c).capacity ≡ c.capacity
configured-capacity (agent.set (agent.hostname text)) c = refl
configured-capacity (agent.set setting) c = refl
configured-capacity event c = refl

capacity_stays : (o : Options) (events : List Event) → (configuration_after o events).capacity ≡ o.max_neighbors
capacity_stays o [] = refl
capacity_stays o (event ∷ events) = configured-capacity event (configuration_after o events) ∙ capacity_stays o events

-- ## A limit that no port exceeds

-- the table of a port with this past
abbrev pub port_table : Options → List Happened → Contents
port_table o past = table_of o.max_neighbors (calls_after o past)

holds_few : (o : Options) (past : List Happened) (name : List ℕ) (n : ℕ) → nat_le (length (port_after o past name).table.neighbors) n ≡ true → length (port_table o past).neighbors ≤ n
unfolding port_after
holds_few o past name n h = grind (arith, nat_tests, h)

fits_at : (o : Options) (events : List Event) (n s k : ℕ) (names : List (List ℕ)) → k < length names → fits (ports_after o events s names) n ≡ true
    → length (port_table o (port_past (s + k) events)).neighbors ≤ n
fits_at o events n s k [] lt h = absurd (omega arith)
fits_at o events n s zero (name ∷ names) lt h = grind (arith, common_steps, and_parts, ℕ, add-zero, holds_few)
fits_at o events n s (suc k) (name ∷ names) lt h =
    let b = and_parts (nat_le (length (port_after o (port_past s events) name).table.neighbors) n) (fits (ports_after o events (s + 1) names) n) h in
    let place : s + 1 + k ≡ s + suc k = omega arith in
    subst (λ (i : ℕ). length (port_table o (port_past i events)).neighbors ≤ n) place (fits_at o events n (s + 1) k names (omega arith) b.1)

limit_fits : (o : Options) (i : ℕ) (events : List Event) (n : ℕ) → i < length o.names → AcceptsLimit (agent_of (record { options = o; events = events })) n
    → IsNewLimit (port_table o (port_past i events)) n
unfolding agent_of
limit_fits o i events n lt a = record {
  least = omega (arith, a.least);
  most = omega (arith, a.most, capacity_stays o events);
  held = let place : 0 + i ≡ i = omega arith in
      subst (λ (k : ℕ). length (port_table o (port_past k events)).neighbors ≤ n) place (fits_at o events n 0 i o.names lt a.held);
}

-- A limit that the agent allows is allowed for the table of each port.
fits_limit : (o : Options) (i : ℕ) (events : List Event) (event : Event) → i < length o.names → Allows (agent_of (record { options = o; events = events })) event
    → FitsLimit (for_port i event) (port_table o (port_past i events))
fits_limit o i events (agent.frame port octets) lt a = own_or_nothing (λ e. FitsLimit e (port_table o (port_past i events))) (port == i) (frame octets) tt tt
fits_limit o i events (agent.link port up) lt a = own_or_nothing (λ e. FitsLimit e (port_table o (port_past i events))) (port == i) (link up) tt tt
fits_limit o i events (agent.set (agent.status port given)) lt a = own_or_nothing (λ e. FitsLimit e (port_table o (port_past i events))) (port == i) (status given) tt tt
fits_limit o i events (agent.set (agent.limit n)) lt a = limit_fits o i events n lt a
fits_limit o i events event lt a = tt

-- ## The calls on the table of a port

-- If the event makes a call on the table of a port with this past, the call is possible.
abbrev pub IsTaken : Options → PortEvent → List Happened → Type 0
IsTaken o event past = IfSome (call_at event (status_after o past) (up_after past)) (IsPossible (port_table o past))

-- Each call that an event of the past made on the table was possible.
abbrev pub AreTaken : Options → List Happened → Type 0
AreTaken o [] = Unit {0}
AreTaken o (now ∷ past) = IsTaken o now.event past × AreTaken o past

pub allowed_taken : (o : Options) (i : ℕ) (events : List Event) → i < length o.names → AreAllowed o events → AreTaken o (port_past i events)
allowed_taken o i [] lt h = tt
allowed_taken o i (event ∷ events) lt h = grind (arith, common_steps, event_told, octets_for, fits_limit, allowed_taken o i events lt h.2)

all_told : (opened : ℕ) (call : Option Call) (calls : List Call) → IfSome call (IsPossible (table_of opened calls)) → ArePossible opened calls → ArePossible opened (cons_option call calls)
all_told opened None calls h t = t
all_told opened (Some call) calls h t = (h, t)

calls_told : (o : Options) (past : List Happened) → AreTaken o past → ArePossible o.max_neighbors (calls_after o past)
calls_told o [] h = tt
calls_told o (now ∷ past) h = all_told o.max_neighbors (call_at now.event (status_after o past) (up_after past)) (calls_after o past) h.0 (calls_told o past h.1)

pub table_stands : (o : Options) (past : List Happened) → InRange o → AreTaken o past → TableStands o.max_neighbors (calls_after o past) (port_table o past)
table_stands o past r h = stands_left o.max_neighbors (calls_after o past) (omega (arith, r.neighbors)) (omega (arith, r.neighbors)) (calls_told o past h)
