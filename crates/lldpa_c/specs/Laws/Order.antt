-- The checks of exported functions, in the order in which the header lists them.
use Rattle.std.specs.Prelude.{◌≡◌, ◌⊎◌, ℕ, ◌+◌, ◌<◌, ◌≤◌, Bool, false, List, length, Option, Some, None, Ok, Err, slice_get}
use Rattle.lldp_pdu.specs.Draft.{lldpdu_octets}
use Rattle.lldp_transmit.specs.declared.event.Mark.{Mark}
use Rattle.lldp_text.specs.Text.{escaped}
use Rattle.lldp_text.specs.declared.fault.CommandFault.{CommandFault}
use Rattle.lldp_table.specs.Events.{Neighbor}
use Rattle.lldp_engine.specs.declared.command.Show.{Show}
use Rattle.lldp_engine.specs.AgentState.{name_of}
use Rattle.lldp_engine.specs.Command.{Command}
use Rattle.lldp_engine.specs.Event.{frame, link}
use Rattle.lldp_engine.specs.Frames.{frame_of}
use Rattle.lldp_engine.specs.Given.{command_given}
use Rattle.lldp_engine.specs.Lines.{lines_of}
use Rattle.lldpa_c.specs.declared.build.LldpaTlv.{LldpaTlv}
use Rattle.lldpa_c.specs.declared.holder.LldpaAgent.{LldpaAgent}
use Rattle.lldpa_c.specs.declared.marks.LldpaMarks.{LldpaMarks}
use Rattle.lldpa_c.specs.declared.ticks.LldpaTicks.{LldpaTicks}
use Rattle.lldpa_c.specs.Agent.{Answers}
use Rattle.lldpa_c.specs.Answer.{answer_of}
use Rattle.lldpa_c.specs.Building.{Builds, drafted}
use Rattle.lldpa_c.specs.Command.{Obeyed, show_numbered}
use Rattle.lldpa_c.specs.Faults.{command_fault_number}
use Rattle.lldpa_c.specs.Filled.{lines_checks}
use Rattle.lldpa_c.specs.Frame.{frame_checks, mark_numbered}
use Rattle.lldpa_c.specs.Held.{open_checks, count_checks, neighbor_checks, gone_checks, neighbors_at, gone_at}
use Rattle.lldpa_c.specs.Leaving.{Left}
use Rattle.lldpa_c.specs.Texts.{words_of, words_checks}
use Rattle.lldpa_c.specs.Ticks.{TicksTaken}
use Rattle.lldpa_c.specs.Values.{tlv_value, value_checks, escape_checks}
use Rattle.lldp_pdu.specs.Range.{most_body, most_identifier}

-- The answer is this number if the condition holds. Otherwise `others` says what it is.
abbrev pub First : Type 0 → ℕ → (ℕ → Type 0) → ℕ → Type 0
First condition number others answer = (condition → answer ≡ number) × (¬ condition → others answer)

abbrev pub IsSuccess : ℕ → Type 0
IsSuccess answer = answer ≡ 0

abbrev pub IsClosed : LldpaAgent → Type 0
IsClosed handle = handle.is_open ≡ false

abbrev pub HasNoPort : LldpaAgent → ℕ → Type 0
HasNoPort handle port = length handle.held.agent.ports ≤ port

-- these octets exist, and are more than fit
abbrev pub IsTooLong : Option (List ℕ) → ℕ → Type 0
IsTooLong octets room = (them : List ℕ) × (octets ≡ Some them) × (room < length them)

-- the neighbor exists, and its LLDPDU does not fit
abbrev pub IsTooLongAt : List Neighbor → ℕ → ℕ → Type 0
IsTooLongAt neighbors index room = (neighbor : Neighbor) × (slice_get neighbors index ≡ Some neighbor) × (room < length neighbor.octets)

-- the checks of a neighbor with this index, among these neighbors of a port
abbrev pub FindsInOrder : LldpaAgent → ℕ → List Neighbor → ℕ → ℕ → ℕ → Type 0
FindsInOrder handle port neighbors index room answer =
    First (IsClosed handle) 102 (First (HasNoPort handle port) 103 (First (length neighbors ≤ index) 100
    (First (IsTooLongAt neighbors index room) 101 IsSuccess))) answer

-- the first line that is wanted exists, and does not fit with its line feed
abbrev pub IsLineTooLong : LldpaAgent → ℕ → ℕ → ℕ → Type 0
IsLineTooLong handle number from room =
    (show : Show) × (line : List ℕ) × (show_numbered number ≡ Some show)
    × (slice_get (lines_of show handle.held.agent) from ≡ Some line) × (room < length line + 1)

-- the frame that the mark asks for does not fit
abbrev pub IsFrameTooLong : LldpaAgent → ℕ → ℕ → ℕ → Type 0
IsFrameTooLong handle port number room =
    (mark : Mark) × (mark_numbered number ≡ Some mark)
    × (room < length (frame_of handle.held.agent.configuration (name_of handle.held.agent port) mark))

-- the length is not that of an identifier
abbrev pub IsNoIdentifier : List ℕ → Type 0
IsNoIdentifier body = (length body < 2) ⊎ (most_identifier < length body)

-- Each function answers the number of the first check that fails, or 0.
pub record AreInOrder : Type 0 where
  pub opened : (handle : LldpaAgent) → First (IsClosed handle) 102 IsSuccess (answer_of (open_checks handle))
  pub ports : (handle : LldpaAgent) (port : ℕ) →
      First (IsClosed handle) 102 (First (HasNoPort handle port) 103 IsSuccess) (answer_of (count_checks handle port))
  pub neighbors : (handle : LldpaAgent) (port index room : ℕ) →
      FindsInOrder handle port (neighbors_at handle.held.agent port) index room (answer_of (neighbor_checks handle port index room))
  pub gone : (handle : LldpaAgent) (port index room : ℕ) →
      FindsInOrder handle port (gone_at handle.held.agent port) index room (answer_of (gone_checks handle port index room))
  pub lines : (handle : LldpaAgent) (number from room : ℕ) →
      First (show_numbered number ≡ None) 100 (First (IsClosed handle) 102
      (First (IsLineTooLong handle number from room) 101 IsSuccess))
      (answer_of (lines_checks handle number from room))
  pub frames : (handle : LldpaAgent) (port mark room : ℕ) →
      First (mark_numbered mark ≡ None) 100 (First (IsClosed handle) 102 (First (HasNoPort handle port) 103
      (First (IsFrameTooLong handle port mark room) 101 IsSuccess)))
      (answer_of (frame_checks handle port mark room))
  pub words : (number room : ℕ) →
      First (words_of number ≡ None) 100 (First (IsTooLong (words_of number) room) 101 IsSuccess) (answer_of (words_checks number room))
  pub values : (kind : ℕ) (body : List ℕ) (room : ℕ) →
      First (tlv_value kind body ≡ None) 100 (First (IsTooLong (tlv_value kind body) room) 101 IsSuccess)
      (answer_of (value_checks kind body room))
  pub escapes : (text : List ℕ) (room : ℕ) →
      First (most_body < length text) 100 (First (room < length (escaped text)) 101 IsSuccess) (answer_of (escape_checks text room))
  pub building : (chassis port faults_before faults room_before room : List ℕ) (ttl written_before answer written : ℕ) (tlvs : List LldpaTlv) →
      Builds chassis port ttl tlvs faults_before room_before written_before answer faults room written →
      First (IsNoIdentifier chassis ⊎ IsNoIdentifier port) 100 (First (length faults_before < length tlvs) 101
      (First (length room_before < length (lldpdu_octets (drafted chassis port ttl tlvs))) 101 IsSuccess)) answer

-- The same for the functions that change an agent.
pub record EventsAreInOrder : Type 0 where
  pub frames : (before after : LldpaAgent) (port answer : ℕ) (octets : List ℕ) (told_before told : LldpaMarks) →
      Answers before (frame port octets) told_before answer after told →
      First (IsClosed before) 102 (First (HasNoPort before port) 103 IsSuccess) answer
  pub links : (before after : LldpaAgent) (port answer : ℕ) (up : Bool) (told_before told : LldpaMarks) →
      Answers before (link port up) told_before answer after told →
      First (IsClosed before) 102 (First (HasNoPort before port) 103 IsSuccess) answer
  pub commands : (before after : LldpaAgent) (line : List ℕ) (show_before show answer : ℕ) (told_before told : LldpaMarks) →
      Obeyed before line show_before told_before answer after show told →
      First (IsClosed before) 102 (λ answer.
      ((fault : CommandFault) → command_given before.held.agent line ≡ Err fault → answer ≡ command_fault_number fault)
      × ((command : Command) → command_given before.held.agent line ≡ Ok command → answer ≡ 0)) answer
  pub ticks : (before after : LldpaAgent) (asked answer : ℕ) (marks_before marks : LldpaMarks) (told_before told : LldpaTicks) →
      TicksTaken before asked marks_before told_before answer after marks told → First (IsClosed before) 102 IsSuccess answer
  pub leaving : (before after : LldpaAgent) (answer : ℕ) (marks_before marks : LldpaMarks) →
      Left before marks_before answer after marks → First (IsClosed before) 102 IsSuccess answer
