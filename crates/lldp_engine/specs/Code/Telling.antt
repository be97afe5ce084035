-- What a step tells, computed from the agent before it.
use Rattle.std.specs.Prelude.{ℕ, ◌==◌, ◌&&◌, if◌then◌else◌, List, Option, Some, None, slice_get}
use Rattle.lldp_pdu.specs.Frame.{lldpdu_of}
use Rattle.lldp_pdu.specs.Fault.{fault_of}
use Rattle.lldp_pdu.specs.Lldpdu.{extent, ttl_of, msap_of}
use Rattle.lldp_pdu.specs.declared.fault.PduFault.{PduFault}
use Rattle.lldp_table.specs.Contents.{Contents, holds_name}
use Rattle.lldp_table.specs.Outcomes.{store_outcome}
use Rattle.lldp_engine.specs.Status.{receives}
use Rattle.lldp_engine.specs.Event.{Event}
use Rattle.lldp_engine.specs.AgentState.{AgentState, PortState}
use Rattle.lldp_engine.specs.Port.Event.{PortEvent, frame}
use Rattle.lldp_engine.specs.Told.{Told, nothing, deaf, not_lldp, refused, stored, left}
use Rattle.lldp_engine.specs.Code.Whose.{Whose, one_port, each_port, whose}

-- Returns what an LLDPDU tells, given its first fault if it has one.
abbrev pub pdu_tells : Contents → List ℕ → Option PduFault → Told
pdu_tells table pdu (Some fault) = refused fault
pdu_tells table pdu None =
    if ttl_of pdu == 0 then left (msap_of pdu) (holds_name table (msap_of pdu))
    else stored (msap_of pdu) (store_outcome table (msap_of pdu) (extent pdu))

-- Returns what received octets tell, given their LLDPDU if they are an LLDP frame.
abbrev pub octets_tell : Contents → Option (List ℕ) → Told
octets_tell table None = not_lldp
octets_tell table (Some pdu) = pdu_tells table pdu (fault_of pdu)

-- Returns what a frame tells a port.
abbrev pub frame_tells : PortState → List ℕ → Told
frame_tells p octets = if receives p.status && p.machine.up then octets_tell p.table (lldpdu_of octets) else deaf

-- Returns what was told after an event of a port: what a frame tells, or else what was told before.
abbrev pub port_told : PortEvent → PortState → Told → Told
port_told (frame octets) p before = frame_tells p octets
port_told event p before = before

-- Returns what an event tells the port with this number, if there is one.
abbrev pub told_at : PortEvent → Option PortState → Told
told_at event None = nothing
told_at event (Some port) = port_told event port nothing

-- Returns what an event tells these ports. An event for each port tells nothing.
abbrev pub ports_told : Whose → List PortState → Told
ports_told (one_port number event) ports = told_at event (slice_get ports number)
ports_told (each_port event) ports = nothing

-- Returns what an event tells an agent.
abbrev pub agent_told : Event → AgentState → Told
agent_told event agent = ports_told (whose event) agent.ports
