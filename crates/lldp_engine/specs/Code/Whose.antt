-- Which ports an event of the agent concerns, as the code tells it.
use Rattle.std.specs.Prelude.{ℕ, ◌==◌, if◌then◌else◌}
use Rattle.lldp_engine.specs.declared.port.event.Whose.{Whose as CodeWhose}
use Rattle.lldp_engine.specs.declared.port.event.Whose.TheVariants.{OnePort, EachPort}
use Rattle.lldp_engine.specs.Event as agent
use Rattle.lldp_engine.specs.Port.Event.{PortEvent, tick, frame, link, status, limit, change, nothing}
use Rattle.lldp_engine.specs.Port.EventView.{port_event_of}

-- The ports that an event concerns (one by its number, or each), and the port event for them.
pub data Whose : Type 0 where
  one_port : (port : ℕ) (event : PortEvent) → Whose
  each_port : (event : PortEvent) → Whose

-- Returns as plain data the ports that an event of the Rust code concerns, and their port event.
abbrev pub whose_of : CodeWhose → Whose
whose_of (OnePort port event) = one_port port (port_event_of event)
whose_of (EachPort event) = each_port (port_event_of event)

-- Every command except a status concerns each port.
abbrev pub whose_setting : agent.Setting → Whose
whose_setting (agent.status port given) = one_port port (status given)
whose_setting (agent.limit neighbors) = each_port (limit neighbors)
whose_setting setting = each_port change

-- A tick concerns each port; frames and link events concern one port.
abbrev pub whose : agent.Event → Whose
whose agent.tick = each_port tick
whose (agent.frame port octets) = one_port port (frame octets)
whose (agent.link port up) = one_port port (link up)
whose (agent.set setting) = whose_setting setting

-- Returns the port event for port i, which is `nothing` if the event is for another port.
abbrev pub of_port : ℕ → Whose → PortEvent
of_port i (one_port port event) = if port == i then event else nothing
of_port i (each_port event) = event
