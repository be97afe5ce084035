-- What the lines of a trace ask for, by the octets of their words.
use Rattle.std.specs.Prelude.{codes, ◌≡◌, ◌≢◌, ◌≤◌, ◌⊎◌, ◌↔◌, ℕ, true, false, List, [], ◌∷◌, ◌++◌, length, Ok, Err}
use Rattle.std.specs.List.{AllByRecursion}
use Rattle.lldp_text.specs.declared.fault.CommandFault.TheVariants.{Unknown, Range}
use Rattle.lldp_text.specs.Answer.{on_ok}
use Rattle.lldp_text.specs.Number.{number_of}
use Rattle.lldp_engine.specs.AgentState.{AgentState}
use Rattle.lldp_engine.specs.Given.{command_said}
use Rattle.lldp_program.specs.declared.line.LineFault.TheVariants.{Command}
use Rattle.lldp_program.specs.Trace.Forms.{of_command, tick_form, frame_form, link_form, form_of, work_given}
use Rattle.lldp_program.specs.Trace.Work.{command, skip, ticks}
use Rattle.lldp_program.specs.Ranges.{most_of_line, most_ticks}

abbrev pub tick_word : List ℕ
tick_word = codes "tick"

abbrev pub rx_word : List ℕ
rx_word = codes "rx"

abbrev pub up_word : List ℕ
up_word = codes "up"

abbrev pub down_word : List ℕ
down_word = codes "down"

-- These four words begin the forms of a trace, and any other first word begins a command.
pub record BeginForms (agent : AgentState) (words : List (List ℕ)) : Type 0 where
  pub tick : form_of agent (tick_word ∷ words) ≡ tick_form words
  pub rx : form_of agent (rx_word ∷ words) ≡ frame_form agent words
  pub up : form_of agent (up_word ∷ words) ≡ link_form agent true words
  pub down : form_of agent (down_word ∷ words) ≡ link_form agent false words
  pub others : (word : List ℕ) → word ≢ tick_word → word ≢ rx_word → word ≢ up_word → word ≢ down_word →
      form_of agent (word ∷ words) ≡ on_ok command (of_command (command_said agent (word ∷ words)))
  pub none : form_of agent [] ≡ Err (Command Unknown)

-- `tick` without a number is one tick. `tick` with a number from 1 to 65535 is that many ticks.
pub record CountTicks : Type 0 where
  pub alone : tick_form [] ≡ Ok (ticks 1)
  pub numbered : (word : List ℕ) → tick_form (word ∷ []) ≡ on_ok ticks (of_command (number_of word 1 most_ticks))
  -- examples: 1, 60001, 65535, 65536 and 0
  pub least : tick_form ((0x31 ∷ []) ∷ []) ≡ Ok (ticks 1)
  pub many : tick_form ((codes "60001") ∷ []) ≡ Ok (ticks 60001)
  pub greatest : tick_form ((codes "65535") ∷ []) ≡ Ok (ticks most_ticks)
  pub above : tick_form ((codes "65536") ∷ []) ≡ Err (Command Range)
  pub below : tick_form ((0x30 ∷ []) ∷ []) ≡ Err (Command Range)

-- all octets are spaces and tabs
abbrev pub AreBlanks : List ℕ → Type 0
AreBlanks octets = AllByRecursion (λ octet. (octet ≡ 0x20) ⊎ (octet ≡ 0x09)) octets

-- the line has only spaces and tabs, or its first other octet is `#`
abbrev pub IsPassedOver : List ℕ → Type 0
IsPassedOver line =
    AreBlanks line ⊎ ((blanks : List ℕ) × (rest : List ℕ) × AreBlanks blanks × (line ≡ blanks ++ 0x23 ∷ rest))

-- A line is skipped exactly if it is blank or a comment, and has at most 4,096 octets.
abbrev pub SkipsLines : AgentState → List ℕ → Type 0
SkipsLines agent line = (work_given agent line ≡ Ok skip) ↔ ((length line ≤ most_of_line) × IsPassedOver line)
