-- The contract of the frames that an agent writes for a port.
use Rattle.std.specs.Prelude.{◌≡◌, ℕ, ◌==◌, true, not, nat_lt, Bool, List, [], ◌∷◌, length, Option, Some, None, is_none, slice_get, if◌then◌else◌}
use Rattle.std.specs.Option.{option_map}
use Rattle.lldp_pdu.specs.Check.{Check}
use Rattle.lldp_transmit.specs.declared.event.Mark.{Mark}
use Rattle.lldp_transmit.specs.declared.event.Mark.TheVariants.{Ordinary, Shutdown}
use Rattle.lldp_engine.specs.AgentState.{AgentState, name_of}
use Rattle.lldp_engine.specs.Frames.{SaysBack, frame_of, draft_of}
use Rattle.lldp_engine.specs.Past.{Past, configuration_after}
use Rattle.lldp_engine.specs.Standing.{Stands}
use Rattle.lldpa_c.specs.declared.holder.LldpaAgent.{LldpaAgent}
use Rattle.lldpa_c.specs.declared.answer.TheConstants.{OUT_OF_RANGE, NO_ROOM, NOT_OPEN, NO_PORT}
use Rattle.lldpa_c.specs.Answer.{is_over}

-- the mark with this number, if there is such a mark and it asks for a frame
abbrev pub mark_numbered : ℕ → Option Mark
mark_numbered n = if n == 1 then Some Ordinary else if n == 2 then Some Shutdown else None

-- The contract of a frame: these octets are the frame that the mark asks for on the port.
pub record Writes (agent : AgentState) (port : ℕ) (mark : Mark) (octets : List ℕ) : Type 0 where
  pub are : octets ≡ frame_of agent.configuration (name_of agent port) mark
  pub says : SaysBack (draft_of agent.configuration (name_of agent port) mark) octets
  pub past : (past : Past) → Stands past agent → (name : List ℕ) → slice_get past.options.names port ≡ Some name →
      octets ≡ frame_of (configuration_after past.options past.events) name mark

-- the frame that the mark with this number asks for on a port
abbrev pub frame_numbered : AgentState → ℕ → ℕ → Option (List ℕ)
frame_numbered agent port mark = option_map (frame_of agent.configuration (name_of agent port)) (mark_numbered mark)

-- true if no port has this number
abbrev pub has_no_port : AgentState → ℕ → Bool
has_no_port agent port = not (nat_lt port (length agent.ports))

-- A frame is not written if no mark has this number, the handle is not open, there is no such port,
-- or the frame does not fit in this many octets.
abbrev pub frame_checks : LldpaAgent → ℕ → ℕ → ℕ → List (Check ℕ)
frame_checks handle port mark room =
    record { fails = is_none (mark_numbered mark); fault = OUT_OF_RANGE }
    ∷ record { fails = not handle.is_open; fault = NOT_OPEN }
    ∷ record { fails = has_no_port handle.held.agent port; fault = NO_PORT }
    ∷ record { fails = is_over room (frame_numbered handle.held.agent port mark); fault = NO_ROOM }
    ∷ []

-- the handle stays open with the same agent, or stays closed
pub record Keeps (before after : LldpaAgent) : Type 0 where
  pub is_open : after.is_open ≡ before.is_open
  pub agent : before.is_open ≡ true → after.held.agent ≡ before.held.agent
