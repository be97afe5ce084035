-- What a table holds, said by positions in the past of its port.
use Rattle.std.specs.Prelude.{◌≡◌, ℕ, Some, slice_get, ◌↔◌, List}
use Rattle.std.specs.List.{Contains, AllPairs, IsDistinct}
use Rattle.lldp_table.specs.Msap.{same_msap}
use Rattle.lldp_table.specs.Events.{Neighbor}
use Rattle.lldp_table.specs.Contents.{Contents, names_of}
use Rattle.lldp_table.specs.Positions.{IsLastStored, IsNewBefore}
use Rattle.lldp_engine.specs.Options.{Options}
use Rattle.lldp_engine.specs.AgentState.{AgentState, PortState}
use Rattle.lldp_engine.specs.Past.{Past, past_of}
use Rattle.lldp_engine.specs.Port.Past.{Happened, table_events_after}

-- The table holds exactly the last stored frame of each MSAP identifier, unless it has expired. No
-- identifier occurs twice, and the neighbors are in the order in which they were last added.
pub record HoldsByPositions (o : Options) (past : List Happened) (table : Contents) : Type 0 where
  pub exactly : (neighbor : Neighbor) → Contains table.neighbors neighbor ↔ IsLastStored (table_events_after o past) neighbor
  pub once : IsDistinct same_msap (names_of table.neighbors)
  pub in_order : AllPairs (IsNewBefore (table_events_after o past)) table.neighbors

-- Each table of the agent holds exactly that.
pub record HoldLastStored (past : Past) (agent : AgentState) : Type 0 where
  pub tables : (i : ℕ) (port : PortState) → slice_get agent.ports i ≡ Some port →
      HoldsByPositions past.options (past_of past i) port.table
