-- What a step tells about a received frame.
use Rattle.std.specs.Prelude.{◌≡◌, ℕ, ◌+◌, ◌==◌, ◌&&◌, ◌↔◌, Bool, true, false, if◌then◌else◌, List, length, Option, Some, None, is_some, slice_get}
use Rattle.lldp_pdu.specs.Msap.{MsapId}
use Rattle.lldp_pdu.specs.View.{msap_view}
use Rattle.lldp_pdu.specs.Frame.{lldpdu_of}
use Rattle.lldp_pdu.specs.Fault.{fault_of}
use Rattle.lldp_pdu.specs.Lldpdu.{ttl_of, msap_of}
use Rattle.lldp_pdu.specs.declared.fault.PduFault.{PduFault}
use Rattle.lldp_table.specs.declared.learned.Outcome.{Outcome}
use Rattle.lldp_table.specs.declared.learned.Outcome.TheVariants.{Added}
use Rattle.lldp_table.specs.Contents.{Contents}
use Rattle.lldp_table.specs.Outcomes.{octets_held, outcome_between}
use Rattle.lldp_engine.specs.declared.agent.told.Told.{Told as CodeTold}
use Rattle.lldp_engine.specs.declared.agent.told.Told.TheVariants.{Nothing, Deaf, NotLldp, Refused, Stored, Left}
use Rattle.lldp_engine.specs.Status.{receives}
use Rattle.lldp_engine.specs.Event.{Event, frame}
use Rattle.lldp_engine.specs.AgentState.{AgentState, PortState}

-- The event is not a frame; the port may not receive or its link is down; the octets are not an LLDP
-- frame; the LLDPDU has this fault; or the neighbor with this MSAP identifier sent a TTL above 0, or
-- a TTL of 0.
pub data Told : Type 0 where
  nothing : Told
  deaf : Told
  not_lldp : Told
  refused : (fault : PduFault) → Told
  stored : (msap : MsapId) (outcome : Outcome) → Told
  left : (msap : MsapId) (held : Bool) → Told

-- Returns a `Told` of the Rust code as plain data.
abbrev pub told_of : CodeTold → Told
told_of Nothing = nothing
told_of Deaf = deaf
told_of NotLldp = not_lldp
told_of (Refused fault) = refused fault
told_of (Stored name outcome) = stored (msap_view name) outcome
told_of (Left name held) = left (msap_view name) held

-- What an LLDPDU tells, given its first fault, and the port's table before and after it.
abbrev pub told_of_pdu : List ℕ → Option PduFault → Contents → Contents → Told
told_of_pdu pdu (Some fault) before after = refused fault
told_of_pdu pdu None before after =
    if ttl_of pdu == 0 then left (msap_of pdu) (is_some (octets_held before (msap_of pdu)))
    else stored (msap_of pdu) (outcome_between (octets_held before (msap_of pdu)) (octets_held after (msap_of pdu)))

-- What a frame tells, given whether the port receives and its link is up, and the frame's LLDPDU.
abbrev pub told_of_frame : Bool → Option (List ℕ) → Contents → Contents → Told
told_of_frame false pdu before after = deaf
told_of_frame true None before after = not_lldp
told_of_frame true (Some pdu) before after = told_of_pdu pdu (fault_of pdu) before after

-- A neighbor that was not held is stored.
abbrev pub is_new : Told → Bool
is_new (stored msap Added) = true
is_new told = false

-- A neighbor that was held leaves.
abbrev pub is_gone : Told → Bool
is_gone (left msap held) = held
is_gone told = false

-- What is told of a frame agrees with the port's table before and after it. The table has one
-- neighbor more exactly if a neighbor is new, and one fewer exactly if one is gone.
pub record TellsFrame (hears : Bool) (pdu : Option (List ℕ)) (before after : Contents) (told : Told) : Type 0 where
  pub is : told ≡ told_of_frame hears pdu before after
  pub new : (is_new told ≡ true) ↔ (length after.neighbors ≡ 1 + length before.neighbors)
  pub gone : (is_gone told ≡ true) ↔ (1 + length after.neighbors ≡ length before.neighbors)

-- Of a frame, `TellsFrame` holds for its port, which hears it if its status receives and its link is
-- up, given the agent before and after it. No other event tells anything.
abbrev pub Tells : Event → AgentState → AgentState → Told → Type 0
Tells (frame number octets) before after told =
    (port next : PortState) → slice_get before.ports number ≡ Some port → slice_get after.ports number ≡ Some next →
    TellsFrame (receives port.status && port.machine.up) (lldpdu_of octets) port.table next.table told
Tells event before after told = told ≡ nothing
