-- The port events of the Rust code as plain data.
use Rattle.lldp_engine.specs.declared.port.event.PortEvent.{PortEvent as CodePortEvent}
use Rattle.lldp_engine.specs.declared.port.event.PortEvent.TheVariants as variant
use Rattle.lldp_engine.specs.Port.Event.{PortEvent, tick, frame, link, status, limit, change}

-- Returns a port event of the Rust code as plain data.
abbrev pub port_event_of : CodePortEvent → PortEvent
port_event_of variant.Tick = tick
port_event_of (variant.Frame octets) = frame octets.now
port_event_of (variant.Link up) = link up
port_event_of (variant.Status given) = status given
port_event_of (variant.Limit neighbors) = limit neighbors
port_event_of variant.Change = change
