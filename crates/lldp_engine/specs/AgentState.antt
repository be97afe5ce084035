-- The data of an agent at one time, and the events that it accepts.
use Rattle.std.specs.Prelude.{◌≡◌, ℕ, ◌<◌, ◌≤◌, Bool, true, nat_le, List, length, map, get_or, []}
use Rattle.std.specs.List.{list_all}
use Rattle.lldp_table.specs.Contents.{Contents}
use Rattle.lldp_transmit.specs.Code.Machine.{Machine}
use Rattle.lldp_engine.specs.declared.port.status.Status.{Status}
use Rattle.lldp_engine.specs.declared.port.counters.Counters.{Counters}
use Rattle.lldp_engine.specs.Configuration.{Configuration}
use Rattle.lldp_engine.specs.Event.{Event, tick, frame, link, set, Setting, limit, status, IsInRange}

-- The data of a port. The field `machine` includes whether the link is up.
pub record PortState : Type 0 where
  pub name : List ℕ
  pub status : Status
  pub table : Contents
  pub machine : Machine
  pub counters : Counters

-- The data of an agent: its configuration, and its ports in the order of opening.
pub record AgentState : Type 0 where
  pub configuration : Configuration
  pub ports : List PortState

-- Returns the names of the ports, in the order of opening.
abbrev pub names_of : AgentState → List (List ℕ)
names_of agent = map (λ port. port.name) agent.ports

-- Returns the name of the port with this number, or an empty name if there is no such port.
abbrev pub name_of : AgentState → ℕ → List ℕ
name_of agent port = get_or (names_of agent) port []

-- Holds if the agent has a port with this number.
abbrev pub IsPort : AgentState → ℕ → Type 0
IsPort agent port = port < length agent.ports

-- True if no port holds more than `most` neighbors.
abbrev pub fits : List PortState → ℕ → Bool
fits ports most = list_all (λ port. nat_le (length port.table.neighbors) most) ports

-- The agent accepts a limit from 1 to the limit at opening, unless a port holds more neighbors.
pub record AcceptsLimit (agent : AgentState) (neighbors : ℕ) : Type 0 where
  pub least : 1 ≤ neighbors
  pub most : neighbors ≤ agent.configuration.capacity
  pub held : fits agent.ports neighbors ≡ true

-- A limit must be accepted, the port of a status must exist, other values must be in range.
abbrev pub AllowsSetting : AgentState → Setting → Type 0
AllowsSetting agent (limit neighbors) = AcceptsLimit agent neighbors
AllowsSetting agent (status port given) = IsPort agent port
AllowsSetting agent setting = IsInRange setting

-- Holds if the agent accepts the event.
abbrev pub Allows : AgentState → Event → Type 0
Allows agent tick = Unit {0}
Allows agent (frame port octets) = IsPort agent port
Allows agent (link port up) = IsPort agent port
Allows agent (set setting) = AllowsSetting agent setting
