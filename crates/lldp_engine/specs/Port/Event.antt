-- The events of one port, and what an event of the agent means to it.
use Rattle.std.specs.Prelude.{ℕ, ◌==◌, Bool, if◌then◌else◌, List}
use Rattle.lldp_engine.specs.declared.port.status.Status.{Status}
use Rattle.lldp_engine.specs.Event as agent

-- A second has passed; the port received octets; the link came up or went down; the status or the
-- limit of neighbors was set; a command made a local change (localChange); or nothing, as in an
-- event of another port.
pub data PortEvent : Type 0 where
  tick : PortEvent
  frame : (octets : List ℕ) → PortEvent
  link : (up : Bool) → PortEvent
  status : (given : Status) → PortEvent
  limit : (neighbors : ℕ) → PortEvent
  change : PortEvent
  nothing : PortEvent

-- Returns what a setting means to port i. Every command except a status is a local change for each
-- port, even if the value is the same.
abbrev pub set_for_port : ℕ → agent.Setting → PortEvent
set_for_port i (agent.status port given) = if port == i then status given else nothing
set_for_port i (agent.limit neighbors) = limit neighbors
set_for_port i setting = change

-- Returns what an event means to port i. A tick comes to each port, a frame or a link event to one.
abbrev pub for_port : ℕ → agent.Event → PortEvent
for_port i agent.tick = tick
for_port i (agent.frame port octets) = if port == i then frame octets else nothing
for_port i (agent.link port up) = if port == i then link up else nothing
for_port i (agent.set setting) = set_for_port i setting
