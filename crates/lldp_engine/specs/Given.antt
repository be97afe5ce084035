-- The command or the fault that an agent reads from a line, by the forms.
use Rattle.std.specs.Prelude.{◌≡◌, ℕ, if◌then◌else◌, List, [], ◌∷◌, Result, Ok, Err, ok_or}
use Rattle.lldp_text.specs.declared.fault.CommandFault.{CommandFault}
use Rattle.lldp_text.specs.declared.fault.CommandFault.TheVariants.{Quote, InUse}
use Rattle.lldp_engine.specs.Event.{limit}
use Rattle.lldp_engine.specs.AgentState.{AgentState, PortState, names_of, fits}
use Rattle.lldp_text.specs.Answer.{◌>>=◌}
use Rattle.lldp_engine.specs.Command.{Command, set}
use Rattle.lldp_engine.specs.Forms.{Form, complete, forms, read_forms}
use Rattle.lldp_text.specs.Words.{words_of}

-- Reads these words by the forms. Returns the command or the fault.
abbrev pub said_by : AgentState → List (List ℕ) → Result Command CommandFault
said_by agent words = read_forms (names_of agent) (Ok (forms agent.configuration.capacity)) words

-- A limit is refused as InUse if a port holds more neighbors. This comes after all other checks.
abbrev pub unless_in_use : List PortState → Result Command CommandFault → Result Command CommandFault
unless_in_use ports (Ok (set (limit n))) = if fits ports n then Ok (set (limit n)) else Err InUse
unless_in_use ports said = said

-- Reads these words by the forms, then checks whether a limit is in use.
abbrev pub command_said : AgentState → List (List ℕ) → Result Command CommandFault
command_said agent words = unless_in_use agent.ports (said_by agent words)

-- Reads a line. A bad quote has the fault Quote; otherwise the words decide.
abbrev pub command_given : AgentState → List ℕ → Result Command CommandFault
command_given agent line = ok_or (words_of line) Quote >>= command_said agent

-- Reading a part of a command and then the rest gives the same result as reading the whole command.
-- If the part has a fault, that fault is the result.
abbrev pub Reads : {A : Type 0} → List (List ℕ) → List Form → List (List ℕ) → Result A CommandFault → (A → List Form) →
    List (List ℕ) → Type 0
Reads names left words (Ok a) then_left words_left =
    read_forms names (Ok left) words ≡ read_forms names (Ok (then_left a)) words_left
Reads names left words (Err fault) then_left words_left = read_forms names (Ok left) words ≡ Err fault

-- If the words of a command were read without a fault, the command is the result, or Extra if a
-- word is left. If they had a fault, that fault is the result.
abbrev pub Says : {A : Type 0} → AgentState → List (List ℕ) → Result A CommandFault → (A → Command) → List (List ℕ) →
    Type 0
Says agent words (Ok a) command words_left =
    said_by agent words ≡ read_forms (names_of agent) (Ok (complete (command a) ∷ [])) words_left
Says agent words (Err fault) command words_left = said_by agent words ≡ Err fault
