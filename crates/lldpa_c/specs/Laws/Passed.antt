-- What C receives of an event: the step of the engine, and the frames that it sends.
use Rattle.std.specs.Prelude.{◌≡◌, ℕ, true, List, length, Option, Some, None, Result, Ok, slice_get, ◌++◌, take}
use Rattle.std.specs.List.{flat_map}
use Rattle.lldp_transmit.specs.declared.event.Mark.{Mark}
use Rattle.lldp_text.specs.declared.fault.CommandFault.{CommandFault}
use Rattle.lldp_text.specs.Text.{ended}
use Rattle.lldp_engine.specs.declared.command.Show.{Show}
use Rattle.lldp_engine.specs.AgentState.{AgentState}
use Rattle.lldp_engine.specs.Command.{Command, show, set}
use Rattle.lldp_engine.specs.Event as event
use Rattle.lldp_engine.specs.Lines.{lines_of}
use Rattle.lldp_engine.specs.Code.Step.{agent_after, agent_marks}
use Rattle.lldpa_c.specs.declared.holder.LldpaAgent.{LldpaAgent}
use Rattle.lldpa_c.specs.declared.marks.LldpaMarks.{LldpaMarks}
use Rattle.lldpa_c.specs.declared.lines.LldpaLines.{LldpaLines}
use Rattle.lldpa_c.specs.Agent.{Answers}
use Rattle.lldpa_c.specs.Command.{Obeys, show_numbered}
use Rattle.lldpa_c.specs.Filled.{Filled}
use Rattle.lldpa_c.specs.Frame.{Keeps}
use Rattle.lldpa_c.specs.Machine.{mark_number}

-- There are as many items as frames to send, and each has the port and the number of its mark.
pub record AreItems (sent : List (ℕ × Mark)) (told : LldpaMarks) : Type 0 where
  pub count : told.count ≡ length sent
  pub items : (i port : ℕ) (mark : Mark) → slice_get sent i ≡ Some (port, mark) →
      slice_get told.items i ≡ Some (record { port = port; mark = mark_number mark })

-- The agent is the one after this event. C receives each frame to send.
pub record IsPassedOn (agent : AgentState) (event : event.Event) (after : AgentState) (told : LldpaMarks) : Type 0 where
  pub next : after ≡ agent_after event agent
  pub sent : AreItems (agent_marks event agent) told

-- the show to print after a command: that of a show command, and none after a setting
abbrev pub show_asked : Result Command CommandFault → Option Show
show_asked (Ok (show what)) = Some what
show_asked said = None

-- Frames and links with the answer 0, and settings, are passed to the engine. After a command the
-- number of the show to print means the show that the command names, and no show if it is a setting.
pub record ArePassedOn : Type 0 where
  pub events : (before after : LldpaAgent) (event : event.Event) (told_before told : LldpaMarks) →
      Answers before event told_before 0 after told →
      (after.is_open ≡ true) × IsPassedOn before.held.agent event after.held.agent told
  pub settings : (agent after : AgentState) (setting : event.Setting) (number told : ℕ) (marks_before marks : LldpaMarks) →
      Obeys (Ok (set setting)) agent number marks_before 0 after told marks → IsPassedOn agent (event.set setting) after marks
  pub shows : (said : Result Command CommandFault) (agent after : AgentState) (number told : ℕ) (marks_before marks : LldpaMarks) →
      Obeys said agent number marks_before 0 after told marks → show_numbered told ≡ show_asked said

-- A show from its first line to its last is all its lines. Two calls, the second from `next` on,
-- give the lines that one call gives. A call that is not done gives at least one line.
pub record AreContinued : Type 0 where
  pub whole : (agent : AgentState) (number : ℕ) (show : Show) (told : LldpaLines) (room : List ℕ) → show_numbered number ≡ Some show →
      Filled agent number 0 told room → told.done ≡ true →
      (told.next ≡ length (lines_of show agent)) × (take told.length room ≡ flat_map ended (lines_of show agent))
  pub parts : (agent : AgentState) (number : ℕ) (show : Show) (one two : LldpaLines) (room other : List ℕ) → show_numbered number ≡ Some show →
      Filled agent number 0 one room → Filled agent number one.next two other → two.done ≡ true →
      take one.length room ++ take two.length other ≡ flat_map ended (lines_of show agent)

-- A call that only reads changes no line of a show, and a handle stays open.
pub record AreKept : Type 0 where
  pub shows : (before after : LldpaAgent) (show : Show) → Keeps before after → before.is_open ≡ true →
      (after.is_open ≡ true) × (lines_of show after.held.agent ≡ lines_of show before.held.agent)
