-- What is known of a command after its words were read, before the check for limits in use.
use Rattle.std.specs.Prelude.{◌≤◌}
use Rattle.lldp_engine.specs.AgentState.{AgentState, AllowsSetting}
use Rattle.lldp_engine.specs.Event.{Setting, limit}
use Rattle.lldp_engine.specs.Command.{Command, show, set}

-- Holds if the agent accepts the setting. Whether a limit is in use is not checked.
abbrev pub IsSaid : AgentState → Setting → Type 0
IsSaid agent (limit neighbors) = (1 ≤ neighbors) × (neighbors ≤ agent.configuration.capacity)
IsSaid agent setting = AllowsSetting agent setting

-- Holds if the agent accepts the command. Whether a limit is in use is not checked.
abbrev pub IsSaidCommand : AgentState → Command → Type 0
IsSaidCommand agent (show what) = Unit {0}
IsSaidCommand agent (set setting) = IsSaid agent setting
