-- The ports of an agent stay sound.
use Rattle.std.proofs.Common.{◌≡◌, ℕ, ◌+◌, ◌≤◌, true, List, [], ◌∷◌, length, map, Option, Some, None, refl, arith}
use Rattle.std.specs.Prelude.{◌==◌, IfSome, nat_le}
use Rattle.std.specs.List.{AllByRecursion, list_all}
use Rattle.std.proofs.lemmas.List.{length-map}
use Rattle.std.proofs.lemmas.Bool.{and_parts}
use Rattle.std.proofs.lemmas.Bool.Decides.{nat_tests}
use Rattle.lldp_pdu.specs.Msap.{MsapId}
use Rattle.lldp_table.specs.Events.{Call, learn}
use Rattle.lldp_table.specs.declared.learned.Learned.{Learned}
use Rattle.lldp_table.specs.declared.learned.Learned.TheVariants.{New, Refreshed, Dropped}
use Rattle.lldp_table.specs.Contents.{Contents, IsSound}
use Rattle.lldp_table.specs.Code.Steps.{learned_as, learn_answer, table_after}
use Rattle.lldp_table.specs.Standing.{IsPossible, IsNewLimit}
use Rattle.lldp_table.proofs.Standing.Sound.{sound_open, sound_after}
use Rattle.lldp_engine.specs.Options.{Options, InRange, is_port_name}
use Rattle.lldp_engine.specs.Event as agent
use Rattle.lldp_engine.specs.Event.{Event}
use Rattle.lldp_engine.specs.Port.Event.{PortEvent}
use Rattle.lldp_engine.specs.AgentState.{AgentState, PortState, Allows, fits}
use Rattle.lldp_engine.specs.Sound.{IsSoundPort, AreSound}
use Rattle.lldp_engine.specs.Code.PortStep.{opened_port, with_call, port_step}
use Rattle.lldp_engine.specs.Code.Step.{ports_step}
use Rattle.lldp_engine.specs.Code.Taking.{FitsLimit, AllFit, CanTake}
use Rattle.lldp_engine.proofs.OnePort.Heard.{HasOctets, event_told}
use Rattle.lldp_engine.proofs.AllPorts.EachPort.{own_or_nothing}
use Rattle.std.proofs.lemmas.Grind.{common_steps}
use Rattle.lldp_engine.specs.Code.Whose.{Whose, one_port, each_port, whose, of_port}

abbrev pub AllSound : ℕ → List PortState → Type 0
AllSound capacity ports = AllByRecursion (λ port. IsSoundPort capacity port) ports

-- ## At opening

port_opened : (o : Options) (name : List ℕ) → InRange o → is_port_name name ≡ true → IsSoundPort o.max_neighbors (opened_port o name)
port_opened o name r h = record {
  table = sound_open o.max_neighbors (omega (arith, r.neighbors)) (omega (arith, r.neighbors));
  room = refl;
  some = grind (arith, nat_tests, h);
  short = grind (arith, nat_tests, h);
}

ports_opened : (o : Options) (names : List (List ℕ)) → InRange o → list_all is_port_name names ≡ true → AllSound o.max_neighbors (map (opened_port o) names)
ports_opened o [] r h = tt
ports_opened o (name ∷ names) r h = let b = and_parts (is_port_name name) (list_all is_port_name names) h in (port_opened o name r b.0, ports_opened o names r b.1)

pub opened_are_sound : (o : Options) (ports : List PortState) → InRange o → ports ≡ map (opened_port o) o.names → list_all is_port_name o.names ≡ true → length o.names ≤ 64 → AreSound o.max_neighbors ports
opened_are_sound o ports r e named few = grind (arith, common_steps, length-map, ports_opened)

-- ## After an event

with_call_sound : (table : Contents) (call : Option Call) → IsSound table → IfSome call (IsPossible table) → IsSound (with_call table call)
with_call_sound table None s t = s
with_call_sound table (Some call) s t = sound_after table call s t

-- Learning a neighbor does not change the capacity of the table.
learned-room : (a : Learned) (table : Contents) (msap : MsapId) (ttl : ℕ) (octets : List ℕ) → (learned_as a table msap ttl octets).capacity ≡ table.capacity
learned-room New table msap ttl octets = refl
learned-room Refreshed table msap ttl octets = refl
learned-room Dropped table msap ttl octets = refl

called-room : (table : Contents) (call : Call) → (table_after table call).capacity ≡ table.capacity
called-room table (learn msap ttl octets) = learned-room (learn_answer table msap) table msap ttl octets
called-room table call = refl

with_call_room : (table : Contents) (call : Option Call) → (with_call table call).capacity ≡ table.capacity
with_call_room table None = refl
with_call_room table (Some call) = called-room table call

none_for_all : (ports : List PortState) → AllByRecursion (λ (port : PortState). Unit {0}) ports
none_for_all [] = tt
none_for_all (p ∷ ps) = (tt, none_for_all ps)

each_fits : (event : Whose) (i : ℕ) (ports : List PortState) → CanTake event ports → AllFit (of_port i event) ports
each_fits (one_port port event) i ports f = own_or_nothing (λ e. AllFit e ports) (port == i) event f.1 (none_for_all ports)
each_fits (each_port event) i ports f = f

port_sound : (capacity : ℕ) (event : PortEvent) (n : ℕ) (p : PortState) → HasOctets event → FitsLimit event p.table → IsSoundPort capacity p → IsSoundPort capacity (port_step event n p)
port_sound capacity event n p h f s = grind (arith, common_steps, with_call_sound, event_told, with_call_room)

ports_sound : (capacity : ℕ) (event : Whose) (n i : ℕ) (ports : List PortState) → ((k : ℕ) → HasOctets (of_port k event)) → ((k : ℕ) → AllFit (of_port k event) ports) → AllSound capacity ports
    → AllSound capacity (ports_step event n i ports)
ports_sound capacity event n i [] h f s = tt
ports_sound capacity event n i (p ∷ ps) h f s =
    (port_sound capacity (of_port i event) n p (h i) (f i).0 s.0, ports_sound capacity event n (i + 1) ps h (λ k. (f k).1) s.1)

pub ports_number : (event : Whose) (n i : ℕ) (ports : List PortState) → length (ports_step event n i ports) ≡ length ports
ports_number event n i [] = omega arith
ports_number event n i (p ∷ ps) = omega (arith, ports_number event n (i + 1) ps)

pub stay_sound : (capacity : ℕ) (event : Whose) (n : ℕ) (ports new : List PortState) → new ≡ ports_step event n 0 ports → ((k : ℕ) → HasOctets (of_port k event)) → CanTake event ports
    → AreSound capacity ports → AreSound capacity new
stay_sound capacity event n ports new e h f s = grind (arith, common_steps, ports_number, ports_sound, each_fits)

-- ## If an agent allows a limit, every port can have it

limit_for_all : (capacity n : ℕ) (ports : List PortState) → 1 ≤ n → n ≤ capacity → fits ports n ≡ true → AllSound capacity ports → AllByRecursion (λ port. IsNewLimit port.table n) ports
limit_for_all capacity n [] least most f s = tt
limit_for_all capacity n (p ∷ ps) least most f s =
    let b = and_parts (nat_le (length p.table.neighbors) n) (fits ps n) f in
    let held : length p.table.neighbors ≤ n = grind (arith, nat_tests, b.0) in
    (record { least = omega arith; most = omega (arith, s.0.room); held = held }, limit_for_all capacity n ps least most b.1 s.1)

pub can_take : (now : AgentState) (event : Event) → Allows now event → AllSound now.configuration.capacity now.ports → CanTake (whose event) now.ports
can_take now (agent.frame port octets) a s = (a, none_for_all now.ports)
can_take now (agent.link port up) a s = (a, none_for_all now.ports)
can_take now (agent.set (agent.status port given)) a s = (a, none_for_all now.ports)
can_take now (agent.set (agent.limit n)) a s = limit_for_all now.configuration.capacity n now.ports a.least a.most a.held s
can_take now event a s = none_for_all now.ports
