-- What the code requires of the ports before an event.
use Rattle.std.specs.Prelude.{◌<◌, List, length}
use Rattle.std.specs.List.{AllByRecursion}
use Rattle.lldp_table.specs.Standing.{IsNewLimit}
use Rattle.lldp_table.specs.Contents.{Contents}
use Rattle.lldp_engine.specs.AgentState.{PortState}
use Rattle.lldp_engine.specs.Port.Event.{PortEvent, limit}
use Rattle.lldp_engine.specs.Code.Whose.{Whose, one_port, each_port}

-- Holds if the event sets no limit, or a limit that is possible for this table.
abbrev pub FitsLimit : PortEvent → Contents → Type 0
FitsLimit (limit neighbors) table = IsNewLimit table neighbors
FitsLimit event table = Unit {0}

-- Holds if the event sets no limit, or a limit that is possible for the table of each port.
abbrev pub AllFit : PortEvent → List PortState → Type 0
AllFit event ports = AllByRecursion (λ port. FitsLimit event port.table) ports

-- If the event is for one port, the port exists. A limit in the event is possible for each table.
abbrev pub CanTake : Whose → List PortState → Type 0
CanTake (one_port port event) ports = (port < length ports) × AllFit event ports
CanTake (each_port event) ports = AllFit event ports
