-- What is promised of every port, for each past of the port.
use Rattle.std.specs.Prelude.{◌≡◌, ◌≤◌, List, length}
use Rattle.std.specs.List.{AllByRecursion}
use Rattle.lldp_table.specs.Events.{neighbors, limit_after}
use Rattle.lldp_table.specs.Contents.{Contents}
use Rattle.lldp_engine.specs.Options.{Options}
use Rattle.lldp_engine.specs.Port.Past.{Happened, table_events_after}
use Rattle.lldp_pdu.specs.Range.{most_octets}

-- The table holds exactly the live neighbors, each with its last stored frame, in the order in which
-- they were last added: at most as many as its limit, each with at most 1,500 octets.
pub record HoldsLastStored (o : Options) (past : List Happened) (table : Contents) : Type 0 where
  pub exactly : table.neighbors ≡ neighbors (table_events_after o past)
  pub limit : table.limit ≡ limit_after o.max_neighbors (table_events_after o past)
  pub few : length table.neighbors ≤ table.limit
  pub short : AllByRecursion (λ neighbor. length neighbor.octets ≤ most_octets) table.neighbors
