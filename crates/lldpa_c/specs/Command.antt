-- The contract of commands that C passes to an agent.
use Rattle.std.specs.Prelude.{◌≡◌, ℕ, ◌==◌, true, false, List, [], Option, Some, None, Result, Ok, Err, if◌then◌else◌}
use Rattle.lldp_transmit.specs.declared.event.Mark.{Mark}
use Rattle.lldp_text.specs.declared.fault.CommandFault.{CommandFault}
use Rattle.lldp_engine.specs.declared.command.Show.{Show}
use Rattle.lldp_engine.specs.declared.command.Show.TheVariants.{Neighbors, Statistics, Chassis, Configuration}
use Rattle.lldp_engine.specs.AgentState.{AgentState}
use Rattle.lldp_engine.specs.Command as command
use Rattle.lldp_engine.specs.Event as event
use Rattle.lldp_engine.specs.Given.{command_given}
use Rattle.lldpa_c.specs.declared.holder.LldpaAgent.{LldpaAgent}
use Rattle.lldpa_c.specs.declared.marks.LldpaMarks.{LldpaMarks}
use Rattle.lldpa_c.specs.Marks.{TellsMarks}
use Rattle.lldpa_c.specs.Faults.{command_fault_number}
use Rattle.lldpa_c.specs.Agent.{Steps}

-- the number of a show
abbrev pub show_number : Show → ℕ
show_number Neighbors = 1
show_number Statistics = 2
show_number Chassis = 3
show_number Configuration = 4

-- the show with this number, if there is one
abbrev pub show_numbered : ℕ → Option Show
show_numbered n =
    if n == 1 then Some Neighbors
    else if n == 2 then Some Statistics
    else if n == 3 then Some Chassis
    else if n == 4 then Some Configuration
    else None

-- the setting was applied, and the frames to send were written to the struct for C
pub record CarriesOut (setting : event.Setting) (agent after : AgentState) (told : LldpaMarks) : Type 0 where
  pub sent : List (ℕ × Mark)
  pub told_are : TellsMarks sent told
  pub steps : Steps agent (event.set setting) after sent

-- If the command has a fault, the fault's number is returned and nothing changes. For a show, the
-- show's number is written and no port sends. A setting is applied.
abbrev pub Obeys : Result command.Command CommandFault → AgentState → ℕ → LldpaMarks → ℕ → AgentState → ℕ → LldpaMarks → Type 0
Obeys (Err fault) agent show told answer after show_after told_after =
    (answer ≡ command_fault_number fault) × (after ≡ agent) × (show_after ≡ show) × (told_after ≡ told)
Obeys (Ok (command.show what)) agent show told answer after show_after told_after =
    (answer ≡ 0) × (after ≡ agent) × (show_after ≡ show_number what) × TellsMarks [] told_after
Obeys (Ok (command.set setting)) agent show told answer after show_after told_after =
    (answer ≡ 0) × (show_after ≡ 0) × CarriesOut setting agent after told_after

-- The command line is run if the handle is open. Otherwise nothing is written.
pub record Obeyed (before : LldpaAgent) (line : List ℕ) (show : ℕ) (told : LldpaMarks) (answer : ℕ) (after : LldpaAgent) (show_after : ℕ) (told_after : LldpaMarks) : Type 0 where
  pub obeyed : before.is_open ≡ true →
      (after.is_open ≡ true)
      × Obeys (command_given before.held.agent line) before.held.agent show told answer after.held.agent show_after told_after
  pub closed : before.is_open ≡ false →
      (answer ≡ 102) × (after.is_open ≡ false) × (show_after ≡ show) × (told_after ≡ told)
