-- What an event does to the status, the link, the table and the transmit machine of a port, given
-- the state before the event.
use Rattle.std.specs.Prelude.{◌&&◌, not, Bool, true, false, if◌then◌else◌, Option, Some, None, option_and_then}
use Rattle.lldp_pdu.specs.Msap.{MsapId}
use Rattle.lldp_pdu.specs.Lldpdu.{extent, ttl_of, msap_of}
use Rattle.lldp_table.specs.Events.{Call, learn, forget, purge, tick as tick_call, set_limit}
use Rattle.lldp_table.specs.declared.learned.Learned.{Learned}
use Rattle.lldp_table.specs.declared.learned.Learned.TheVariants.{New}
use Rattle.lldp_transmit.specs.declared.event.Cause.{Cause}
use Rattle.lldp_transmit.specs.declared.event.Cause.TheVariants.{Tick, Change, Neighbor, Stop, Allow, Down, Up, Nothing}
use Rattle.lldp_engine.specs.declared.port.status.Status.{Status}
use Rattle.lldp_engine.specs.Status.{receives, transmits}
use Rattle.lldp_engine.specs.Heard.{Heard, refused, leaves, tells, heard_by}
use Rattle.lldp_engine.specs.Port.Event.{PortEvent, tick, frame, link, status, limit, change, nothing}

-- ## Status, link and heard LLDPDUs

-- A status event sets the status; other events leave it as it was.
abbrev pub status_then : PortEvent → Status → Status
status_then (status given) before = given
status_then event before = before

-- A link event sets whether the link is up; other events leave it as it was.
abbrev pub up_then : PortEvent → Bool → Bool
up_then (link up) before = up
up_then event before = before

-- A port hears an LLDPDU only when it receives a frame.
abbrev pub heard_at : PortEvent → Status → Bool → Option Heard
heard_at (frame octets) before up = heard_by before up octets
heard_at event before up = None

-- ## Table

-- At a TTL of 0 the table forgets the neighbor; at a TTL above 0 it learns the neighbor.
abbrev pub call_of : Heard → Option Call
call_of refused = None
call_of (leaves msap) = Some (forget msap)
call_of (tells pdu) = Some (learn (msap_of pdu) (ttl_of pdu) (extent pdu))

-- Returns the call on the table. A status that ends receiving purges it, even if the link is down.
abbrev pub call_at : PortEvent → Status → Bool → Option Call
call_at tick before up = Some tick_call
call_at (frame octets) before up = option_and_then call_of (heard_by before up octets)
call_at (status given) before up = if receives before && not (receives given) then Some purge else None
call_at (limit neighbors) before up = Some (set_limit neighbors)
call_at event before up = None

-- ## Transmit machine

-- Storing a new neighbor means the cause Neighbor. Any other answer of the table means Nothing.
abbrev pub cause_of_answer : Learned → Cause
cause_of_answer New = Neighbor
cause_of_answer answer = Nothing

-- A heard LLDPDU means a new neighbor if the table's answer to its MSAP identifier is New.
abbrev pub cause_of_heard : (MsapId → Learned) → Option Heard → Cause
cause_of_heard answer (Some (tells pdu)) = cause_of_answer (answer (msap_of pdu))
cause_of_heard answer heard = Nothing

-- Losing the right to transmit means Stop, gaining it means Allow.
abbrev pub cause_of_right : Bool → Bool → Cause
cause_of_right true false = Stop
cause_of_right false true = Allow
cause_of_right true true = Nothing
cause_of_right false false = Nothing

-- A link that goes down means Down, a link that comes up means Up.
abbrev pub cause_of_link : Bool → Bool → Cause
cause_of_link true false = Down
cause_of_link false true = Up
cause_of_link true true = Nothing
cause_of_link false false = Nothing

-- Returns what an event means to the machine; `answer` is the table's answer to an MSAP identifier.
abbrev pub cause_at : PortEvent → Status → Bool → (MsapId → Learned) → Cause
cause_at tick before up answer = Tick
cause_at (frame octets) before up answer = cause_of_heard answer (heard_by before up octets)
cause_at (link given) before up answer = cause_of_link up given
cause_at (status given) before up answer = cause_of_right (transmits before) (transmits given)
cause_at (limit neighbors) before up answer = Change
cause_at change before up answer = Change
cause_at nothing before up answer = Nothing
