-- What is true of the ports of every agent.
use Rattle.std.specs.Prelude.{◌≡◌, ℕ, ◌<◌, ◌≤◌, List, length}
use Rattle.std.specs.List.{AllByRecursion}
use Rattle.lldp_table.specs.Contents.{IsSound}
use Rattle.lldp_engine.specs.AgentState.{PortState}
use Rattle.lldp_engine.specs.Ranges.{most_ports, most_name}

-- A port has a name of 1 to 15 octets, and a sound table with this capacity.
pub record IsSoundPort (capacity : ℕ) (port : PortState) : Type 0 where
  pub table : IsSound port.table
  pub room : port.table.capacity ≡ capacity
  pub some : 0 < length port.name
  pub short : length port.name ≤ most_name

-- There are at most 64 ports, and each is sound.
pub record AreSound (capacity : ℕ) (ports : List PortState) : Type 0 where
  pub few : length ports ≤ most_ports
  pub sound : AllByRecursion (λ port. IsSoundPort capacity port) ports
