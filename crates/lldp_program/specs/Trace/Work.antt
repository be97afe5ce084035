-- What one line of a trace asks for, as plain data.
use Rattle.std.specs.Prelude.{ℕ, ◌≤◌, Bool, List}
use Rattle.lldp_engine.specs.Event as event
use Rattle.lldp_engine.specs.AgentState.{AgentState, Allows}
use Rattle.lldp_engine.specs.Command.{Command, command_of, AllowsCommand}
use Rattle.lldp_program.specs.declared.line.Work.{Work as CodeWork}
use Rattle.lldp_program.specs.declared.line.Work.TheVariants as code

-- nothing, some ticks, a frame on a port, a link that came up or went down, or a command
pub data Work : Type 0 where
  skip : Work
  ticks : ℕ → Work
  frame : (port : ℕ) (octets : List ℕ) → Work
  link : (port : ℕ) (up : Bool) → Work
  command : Command → Work

-- the work of a line as plain data
abbrev pub work_of : CodeWork → Work
work_of code.Skip = skip
work_of (code.Ticks n) = ticks n
work_of (code.Frame port octets) = frame port octets.now
work_of (code.Link port up) = link port up
work_of (code.Command given) = command (command_of given)

-- the agent accepts the events of the work; a number of ticks is at least 1
abbrev pub AllowsWork : AgentState → Work → Type 0
AllowsWork agent skip = Unit {0}
AllowsWork agent (ticks n) = 1 ≤ n
AllowsWork agent (frame port octets) = Allows agent (event.frame port octets)
AllowsWork agent (link port up) = Allows agent (event.link port up)
AllowsWork agent (command given) = AllowsCommand agent given
