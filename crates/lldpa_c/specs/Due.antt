-- The number of ticks until a port sends or a neighbor ages out, if there is no other event.
use Rattle.std.specs.Prelude.{◌≡◌, ℕ, ◌+◌, ◌-◌, ◌<◌, ◌≤◌, ◌&&◌, nat_lt, if◌then◌else◌, List, [], ◌∷◌, map, Option, Some, None}
use Rattle.lldp_table.specs.Events.{Neighbor}
use Rattle.lldp_table.specs.Contents.{sooner, least_left}
use Rattle.lldp_transmit.specs.Code.Machine.{Machine}
use Rattle.lldp_engine.specs.declared.port.counters.Counters.{Counters}
use Rattle.lldp_engine.specs.Counters.{wrapped}
use Rattle.lldp_engine.specs.AgentState.{AgentState, PortState}
use Rattle.lldp_engine.specs.Past.{Past}
use Rattle.lldp_engine.specs.Standing.{Stands}
use Rattle.lldpa_c.specs.declared.due.TheConstants.{NEVER}
use Rattle.lldpa_c.specs.Ticks.{ticked, IsQuiet}

-- ticks until a machine sends: its timer ends, a waiting frame is sent, or the port may start
abbrev pub until_sends : Machine → Option ℕ
until_sends m =
    if m.active
    then (if m.waiting then Some 1 else (if nat_lt 0 m.timer then Some m.timer else None))
    else (if m.allowed && m.up then Some m.wait else None)

-- ticks until one of these ports sends or loses a neighbor; 0 and 1 both mean the next tick
abbrev pub due_on : List PortState → Option ℕ
due_on [] = None
due_on (port ∷ ports) = sooner (sooner (least_left port.table.neighbors) (until_sends port.machine)) (due_on ports)

-- the state without the parts that a tick changes even if nothing is due: the credit, the two
-- clocks, the seconds left, the neighbors that aged out, and the part of `ageouts` above 32 bits
abbrev pub timeless_machine : Machine → Machine
timeless_machine m = record m { credit = 0; wait = 0; timer = 0 }

abbrev pub timeless_counters : Counters → Counters
timeless_counters c = record c { ageouts = wrapped c.ageouts }

abbrev pub timeless_neighbors : List Neighbor → List Neighbor
timeless_neighbors neighbors = map (λ (neighbor : Neighbor). record neighbor { left = 0 }) neighbors

abbrev pub timeless_port : PortState → PortState
timeless_port p = record {
  name = p.name;
  status = p.status;
  table = record {
    capacity = p.table.capacity;
    limit = p.table.limit;
    neighbors = timeless_neighbors p.table.neighbors;
    gone = [];
    too_many_left = 0;
  };
  machine = timeless_machine p.machine;
  counters = timeless_counters p.counters;
}

abbrev pub timeless : AgentState → AgentState
timeless agent = record { configuration = agent.configuration; ports = map timeless_port agent.ports }

-- Nothing is due before tick number `seconds`: until then only credits and clocks change. At that
-- tick a port sends or a neighbor ages out, if the agent's state is the result of past events.
-- NEVER means that nothing is ever due.
pub record IsDue (agent : AgentState) (seconds : ℕ) : Type 0 where
  pub first : 1 ≤ seconds
  pub quiet : (k : ℕ) → k + 1 < seconds → IsQuiet (ticked k agent)
  pub same : (k : ℕ) → k < seconds → timeless (ticked k agent) ≡ timeless agent
  pub never : seconds ≡ NEVER → (k : ℕ) → IsQuiet (ticked k agent)
  pub there : seconds < NEVER → (past : Past) → Stands past agent → IsQuiet (ticked (seconds - 1) agent) → ⊥
