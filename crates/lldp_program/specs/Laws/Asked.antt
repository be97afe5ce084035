-- The items that lines ask for, and the text of each item: lines of frames or a show, or a fault.
use Rattle.std.specs.Prelude.{codes, ◌≡◌, ℕ, List, [], ◌∷◌, ◌++◌, length, get_or, Err}
use Rattle.std.specs.List.{AllByRecursion}
use Rattle.hex.specs.Hex.{encode_lower}
use Rattle.lldp_engine.specs.Configuration.{Configuration}
use Rattle.lldp_engine.specs.Event.{tick}
use Rattle.lldp_engine.specs.Event as event
use Rattle.lldp_engine.specs.Command.{show, set}
use Rattle.lldp_engine.specs.Frames.{frame_of}
use Rattle.lldp_engine.specs.Lines.{lines_of as show_lines}
use Rattle.lldp_engine.specs.Past.{Past, Sending, agent_of, configuration_after, marks_of, with_event}
use Rattle.lldp_text.specs.Fault.{text_of as command_fault_text}
use Rattle.lldp_program.specs.declared.line.LineFault.{LineFault}
use Rattle.lldp_program.specs.declared.line.LineFault.TheVariants.{TooLong, Hex, Command}
use Rattle.lldp_program.specs.Laws.Lines.{joined}
use Rattle.lldp_program.specs.Laws.OnlyLines.{IsLineOfWork}
use Rattle.lldp_program.specs.Trace.Forms.{work_given}
use Rattle.lldp_program.specs.Trace.Items.{Item, happens, shows, refused, items_of, text_of}
use Rattle.lldp_program.specs.Trace.Sent.{sent_text}
use Rattle.lldp_program.specs.Trace.Work.{Work, skip, ticks, frame, link, command}

-- The items that work asks for: n ticks; one event; one show; none if the line is skipped.
abbrev pub AreItemsOf : Work → List Item → Type 0
AreItemsOf skip items = items ≡ []
AreItemsOf (ticks n) items = (length items ≡ n) × AllByRecursion (λ item. item ≡ happens tick) items
AreItemsOf (frame port octets) items = items ≡ happens (event.frame port octets) ∷ []
AreItemsOf (link port up) items = items ≡ happens (event.link port up) ∷ []
AreItemsOf (command (set setting)) items = items ≡ happens (event.set setting) ∷ []
AreItemsOf (command (show what)) items = items ≡ shows what ∷ []

-- A line asks for the items of its work, and a refused line for the report of its fault.
pub record AsksItsItems (past : Past) (line : List ℕ) : Type 0 where
  pub work : (work : Work) → IsLineOfWork (agent_of past) work line → AreItemsOf work (items_of past line)
  pub fault : (fault : LineFault) → work_given (agent_of past) line ≡ Err fault → items_of past line ≡ refused fault ∷ []

-- The text has only these lines, one for each port that sends, in order: `tx`, a space, the name of
-- the port, a space, the octets of its frame in lower case hexadecimal, LF.
abbrev pub AreLinesOf : List (List ℕ) → Configuration → List Sending → List ℕ → Type 0
AreLinesOf names configuration [] text = text ≡ []
AreLinesOf names configuration (mark ∷ marks) text =
    let name = get_or names mark.0 [] in
    (rest : List ℕ)
    × (text ≡ (0x74 ∷ 0x78 ∷ 0x20 ∷ name) ++ (0x20 ∷ encode_lower (frame_of configuration name mark.1)) ++ 0x0a ∷ rest)
    × AreLinesOf names configuration marks rest

-- the text of the last event has one line for each port that sent
abbrev pub TellsEachPort : Past → Type 0
TellsEachPort past =
    AreLinesOf past.options.names (configuration_after past.options past.events) (marks_of past) (sent_text past)

-- The text of an event is the lines for what was sent, the text of a show is its lines, and the
-- text of a refused line is its fault. Each line ends with LF, and nothing else is written.
abbrev pub TellsItem : Past → Item → Type 0
TellsItem past (happens event) = text_of past (happens event) ≡ sent_text (with_event past event)
TellsItem past (shows what) = text_of past (shows what) ≡ joined (show_lines what (agent_of past))
TellsItem past (refused TooLong) = text_of past (refused TooLong) ≡ codes "error: line too long\n"
TellsItem past (refused Hex) = text_of past (refused Hex) ≡ codes "error: bad hexadecimal\n"
TellsItem past (refused (Command fault)) = text_of past (refused (Command fault)) ≡ command_fault_text fault ++ 0x0a ∷ []
