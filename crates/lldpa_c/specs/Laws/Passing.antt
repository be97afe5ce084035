-- Seconds that pass, and the seconds until something is due.
use Rattle.std.specs.Prelude.{◌≡◌, ℕ, ◌+◌, ◌<◌, ◌≤◌, false, List, [], ◌++◌, length, map, min, replicate, sum_by}
use Rattle.std.specs.List.{AllByRecursion}
use Rattle.lldp_transmit.specs.declared.event.Mark.{Mark}
use Rattle.lldp_transmit.specs.Code.Machine.{Machine}
use Rattle.lldp_engine.specs.AgentState.{AgentState}
use Rattle.lldp_engine.specs.Event.{tick}
use Rattle.lldp_engine.specs.Past.{Past}
use Rattle.lldp_engine.specs.Standing.{Stands}
use Rattle.lldp_engine.specs.ChassisLines.{chassis_lines}
use Rattle.lldp_engine.specs.ConfigurationLines.{configuration_lines}
use Rattle.lldp_engine.specs.Code.Step.{agent_after, agent_marks}
use Rattle.lldpa_c.specs.declared.due.TheConstants.{NEVER}
use Rattle.lldpa_c.specs.Due.{IsDue}
use Rattle.lldpa_c.specs.Held.{neighbors_at}
use Rattle.lldpa_c.specs.Still.{may_go, IsStillMachine, IsStill}
use Rattle.lldpa_c.specs.Ticks.{Takes, IsQuiet, ticked, with_ticks, neighbors_held}

-- the past of an agent and n seconds after it
abbrev pub SecondsLater : ℕ → Past → Past → Type 0
SecondsLater n past later = (later.options ≡ past.options) × (later.events ≡ replicate n tick ++ past.events)

-- All neighbors of all ports are counted. n ticks are n events of the past, one after another. A
-- second is quiet if no port sends and all neighbors stay. If each port is still, no number of seconds
-- changes the agent. A machine is still if its credit is full, its clocks have ended, and it may not
-- send or start.
pub record AreSeconds : Type 0 where
  pub held : (agent : AgentState) → neighbors_held agent ≡ sum_by (λ port. length port.table.neighbors) agent.ports
  pub past : (n : ℕ) (past : Past) → SecondsLater n past (with_ticks n past)
  pub agents : (n : ℕ) (agent : AgentState) → ticked (n + 1) agent ≡ ticked n (agent_after tick agent)
  pub still : (agent : AgentState) → AllByRecursion IsStill agent.ports → (n : ℕ) → ticked n agent ≡ agent
  pub machines : (m : Machine) → m.credit ≡ m.credit_max → m.wait ≡ 0 → m.timer ≡ 0 → may_go m ≡ false → IsStillMachine m
  pub quiet : (agent : AgentState) → IsQuiet agent →
      (agent_marks tick agent ≡ []) × (neighbors_held (ticked 1 agent) ≡ neighbors_held agent)

-- `lldpa_ticks` takes every second that is asked for, or stops after the first second at which a
-- port sends or a neighbor ages out: the one that `lldpa_due` announced.
pub record AreTaken (asked taken : ℕ) (before after : AgentState) (sent : List (ℕ × Mark)) (gone : ℕ) : Type 0 where
  pub next : after ≡ ticked taken before
  pub all : sent ≡ [] → gone ≡ 0 → taken ≡ asked
  pub some : 0 < asked → 0 < taken
  pub fewer : gone + neighbors_held after ≤ neighbors_held before
  pub due : (seconds : ℕ) (past : Past) → IsDue before seconds → seconds < NEVER → Stands past before → taken ≡ min asked seconds
  pub never : IsDue before NEVER → (taken ≡ asked) × (sent ≡ []) × (gone ≡ 0)

-- Two agents that differ in clocks alone show the same settings, and hold the same octets.
pub record LookTheSame (agent other : AgentState) : Type 0 where
  pub chassis : chassis_lines agent.configuration ≡ chassis_lines other.configuration
  pub configuration : configuration_lines agent ≡ configuration_lines other
  pub neighbors : (port : ℕ) → map (λ neighbor. neighbor.octets) (neighbors_at agent port)
      ≡ map (λ neighbor. neighbor.octets) (neighbors_at other port)

pub record ArePassing : Type 0 where
  pub taken : (asked taken : ℕ) (before after : AgentState) (sent : List (ℕ × Mark)) (gone : ℕ) →
      Takes asked taken before after sent gone → AreTaken asked taken before after sent gone
  pub same : (agent : AgentState) (seconds k : ℕ) → IsDue agent seconds → k < seconds → LookTheSame (ticked k agent) agent
