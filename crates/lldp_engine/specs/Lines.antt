-- The lines of show commands.
use Rattle.std.specs.Prelude.{ℕ, List}
use Rattle.lldp_engine.specs.AgentState.{AgentState}
use Rattle.lldp_engine.specs.NeighborLines.{neighbors_lines}
use Rattle.lldp_engine.specs.StatisticsLines.{statistics_lines}
use Rattle.lldp_engine.specs.ChassisLines.{chassis_lines}
use Rattle.lldp_engine.specs.ConfigurationLines.{configuration_lines}
use Rattle.lldp_engine.specs.declared.command.Show.{Show}
use Rattle.lldp_engine.specs.declared.command.Show.TheVariants.{Neighbors, Statistics, Chassis, Configuration}

-- Returns the lines of a show command for this agent.
abbrev pub lines_of : Show → AgentState → List (List ℕ)
lines_of Neighbors agent = neighbors_lines agent.ports
lines_of Statistics agent = statistics_lines agent.ports
lines_of Chassis agent = chassis_lines agent.configuration
lines_of Configuration agent = configuration_lines agent
