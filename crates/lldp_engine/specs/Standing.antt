-- What it means that an agent stands for a past: it is the agent after these options and events.
use Rattle.std.specs.Prelude.{◌≡◌}
use Rattle.lldp_engine.specs.Options.{InRange}
use Rattle.lldp_engine.specs.AgentState.{AgentState}
use Rattle.lldp_engine.specs.Past.{Past, AreAllowed, agent_of}

-- The agent is the one that the definitions give for this past. The four numbers of the options are
-- in their ranges. Each event was allowed by the agent that the definitions give for the events
-- before it, and received octets are below 256.
pub record Stands (past : Past) (agent : AgentState) : Type 0 where
  pub in_range : InRange past.options
  pub allowed : AreAllowed past.options past.events
  pub is : agent ≡ agent_of past
