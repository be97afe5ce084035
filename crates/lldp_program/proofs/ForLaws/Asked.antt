-- Which items each line asks for, and which line is written for each port that sends.
use Rattle.std.proofs.Common.{◌≡◌, ℕ, zero, suc, List, [], ◌∷◌, ◌++◌, length, replicate, Ok, refl, ap, ◌∙◌, append_assoc, codes, get_or}
use Rattle.std.specs.List.{AllByRecursion, flat_map}
use Rattle.hex.specs.Hex.{encode_lower}
use Rattle.lldp_engine.specs.Configuration.{Configuration}
use Rattle.lldp_engine.specs.Command.{show, set}
use Rattle.lldp_engine.specs.Event.{tick}
use Rattle.lldp_engine.specs.Frames.{frame_of}
use Rattle.lldp_engine.specs.Lines.{lines_of as show_lines}
use Rattle.lldp_engine.specs.Past.{Past, Sending, agent_of, configuration_after, marks_of}
use Rattle.lldp_program.specs.Trace.Items.{Item, happens, shows, refused, items_of_work}
use Rattle.lldp_program.specs.Trace.Lines.{ended}
use Rattle.lldp_program.specs.Trace.Sent.{mark_line}
use Rattle.lldp_program.specs.Trace.Work.{Work, skip, ticks, frame, link, command}
use Rattle.lldp_program.specs.Laws.Asked.{AreItemsOf, AsksItsItems, AreLinesOf, TellsEachPort, TellsItem}
use Rattle.lldp_program.specs.declared.line.LineFault.TheVariants.{TooLong, Hex, Command}
use Rattle.lldp_program.specs.Laws.Lines.{joined}
use Rattle.lldp_program.proofs.ForLaws.OnlyLines.{says_work}

as_many : (n : ℕ) → length (replicate n (happens tick)) ≡ n
as_many zero = refl
as_many (suc n) = ap (λ (k : ℕ). suc k) (as_many n)

all_ticks : (n : ℕ) → AllByRecursion (λ item. item ≡ happens tick) (replicate n (happens tick))
all_ticks zero = tt
all_ticks (suc n) = (refl, all_ticks n)

items_are : (work : Work) → AreItemsOf work (items_of_work (Ok work))
items_are skip = refl
items_are (ticks n) = (as_many n, all_ticks n)
items_are (frame port octets) = refl
items_are (link port up) = refl
items_are (command (set setting)) = refl
items_are (command (show what)) = refl

pub asks_its_items : (past : Past) (line : List ℕ) → AsksItsItems past line
asks_its_items past line = record {
  work = λ work says. rw ((says_work (agent_of past) line work).1 says) (items_are work);
  fault = λ fault e. ap items_of_work e;
}

-- the line of a port and the text after that line, written octet by octet
line_whole : (name hex rest : List ℕ) → ended (codes "tx " ++ name ++ codes " " ++ hex) ++ rest ≡ (0x74 ∷ 0x78 ∷ 0x20 ∷ name) ++ (0x20 ∷ hex) ++ 0x0a ∷ rest
line_whole name hex rest =
    ap (λ (t : List ℕ). 0x74 ∷ 0x78 ∷ 0x20 ∷ t) (append_assoc (name ++ (0x20 ∷ []) ++ hex) (0x0a ∷ []) rest ∙ ap (λ (t : List ℕ). t ++ 0x0a ∷ rest) (append_assoc name (0x20 ∷ []) hex))

lines_are : (names : List (List ℕ)) (configuration : Configuration) (marks : List Sending) → AreLinesOf names configuration marks (flat_map (mark_line names configuration) marks)
lines_are names configuration [] = refl
lines_are names configuration (mark ∷ marks) =
    let name = get_or names mark.0 [] in
    let rest = flat_map (mark_line names configuration) marks in
    (rest, line_whole name (encode_lower (frame_of configuration name mark.1)) rest, lines_are names configuration marks)

pub tells_each_port : (past : Past) → TellsEachPort past
tells_each_port past = lines_are past.options.names (configuration_after past.options past.events) (marks_of past)

ended_in_order : (lines : List (List ℕ)) → flat_map ended lines ≡ joined lines
ended_in_order [] = refl
ended_in_order (line ∷ lines) = append_assoc line (0x0a ∷ []) (flat_map ended lines) ∙ ap (λ (t : List ℕ). line ++ 0x0a ∷ t) (ended_in_order lines)

pub tells_item : (past : Past) (item : Item) → TellsItem past item
tells_item past (happens event) = refl
tells_item past (shows what) = ended_in_order (show_lines what (agent_of past))
tells_item past (refused TooLong) = refl
tells_item past (refused Hex) = refl
tells_item past (refused (Command fault)) = refl
