-- The items that the lines of a trace ask for, and the text of each.
use Rattle.std.specs.Prelude.{ℕ, List, [], ◌∷◌, ◌++◌, replicate, Result, Ok, Err}
use Rattle.std.specs.List.{flat_map}
use Rattle.lldp_engine.specs.declared.command.Show.{Show}
use Rattle.lldp_engine.specs.Event.{Event, tick}
use Rattle.lldp_engine.specs.Event as event
use Rattle.lldp_engine.specs.Past.{Past, with_event, agent_of}
use Rattle.lldp_engine.specs.Command.{show, set}
use Rattle.lldp_engine.specs.Lines.{lines_of as show_lines}
use Rattle.lldp_program.specs.Trace.Lines.{ended, lines_of}
use Rattle.lldp_program.specs.Trace.Forms.{work_given, fault_text}
use Rattle.lldp_program.specs.Trace.Sent.{sent_text}
use Rattle.lldp_program.specs.Trace.Work.{Work, skip, ticks, frame, link, command}
use Rattle.lldp_program.specs.declared.line.LineFault.{LineFault}

-- one thing that a line asks for: an event, a show, or the fault that refuses it
pub data Item : Type 0 where
  happens : Event → Item
  shows : Show → Item
  refused : LineFault → Item

-- the items that work asks for: none, n ticks, one other event, one show, or one fault
abbrev pub items_of_work : Result Work LineFault → List Item
items_of_work (Ok skip) = []
items_of_work (Ok (ticks n)) = replicate n (happens tick)
items_of_work (Ok (frame port octets)) = happens (event.frame port octets) ∷ []
items_of_work (Ok (link port up)) = happens (event.link port up) ∷ []
items_of_work (Ok (command (set setting))) = happens (event.set setting) ∷ []
items_of_work (Ok (command (show what))) = shows what ∷ []
items_of_work (Err fault) = refused fault ∷ []

-- the items that a line asks for after this past
abbrev pub items_of : Past → List ℕ → List Item
items_of past line = items_of_work (work_given (agent_of past) line)

-- the past after an item; only an event changes the past
abbrev pub after : Past → Item → Past
after past (happens event) = with_event past event
after past (shows what) = past
after past (refused fault) = past

-- the past after these items, done in order
abbrev pub after_all : Past → List Item → Past
after_all past [] = past
after_all past (item ∷ items) = after_all (after past item) items

-- the text of an item: the lines of sent frames, the lines of a show, or the line of a fault
abbrev pub text_of : Past → Item → List ℕ
text_of past (happens event) = sent_text (with_event past event)
text_of past (shows what) = flat_map ended (show_lines what (agent_of past))
text_of past (refused fault) = ended (fault_text fault)

-- the texts of items in order, each for the past after the items before it
abbrev pub text_of_all : Past → List Item → List ℕ
text_of_all past [] = []
text_of_all past (item ∷ items) = text_of past item ++ text_of_all (after past item) items

-- the items that lines ask for, each line read after the items of the lines before it
abbrev pub items_of_lines : Past → List (List ℕ) → List Item
items_of_lines past [] = []
items_of_lines past (line ∷ lines) = items_of past line ++ items_of_lines (after_all past (items_of past line)) lines

-- the text that a run over an input writes
abbrev pub text : Past → List ℕ → List ℕ
text past input = text_of_all past (items_of_lines past (lines_of input))

-- the past after a run over an input
abbrev pub after_input : Past → List ℕ → Past
after_input past input = after_all past (items_of_lines past (lines_of input))
