-- Commands as plain data.
use Rattle.lldp_engine.specs.declared.command.Show.{Show}
use Rattle.lldp_engine.specs.declared.command.Command.{Command as CodeCommand}
use Rattle.lldp_engine.specs.declared.command.Command.TheVariants as code
use Rattle.lldp_engine.specs.Event.{Setting, setting_of}
use Rattle.lldp_engine.specs.Event as event
use Rattle.lldp_engine.specs.AgentState.{AgentState, Allows}

-- A command shows lines or changes something.
pub data Command : Type 0 where
  show : Show → Command
  set : Setting → Command

-- Returns a `Command` of the Rust code as plain data.
abbrev pub command_of : CodeCommand → Command
command_of (code.Show what) = show what
command_of (code.Set setting) = set (setting_of setting)

-- Holds if the agent accepts the command. Every show command is accepted.
abbrev pub AllowsCommand : AgentState → Command → Type 0
AllowsCommand agent (show what) = Unit {0}
AllowsCommand agent (set setting) = Allows agent (event.set setting)
