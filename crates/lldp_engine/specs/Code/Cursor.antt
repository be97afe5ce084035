-- A place among the lines of `show neighbors`.
use Rattle.std.specs.Prelude.{◌≡◌, ◌+◌, ◌<◌, ◌≤◌, List, ◌++◌, length, drop, Some, slice_get}
use Rattle.lldp_engine.specs.declared.show.cursor.Cursor.{Cursor}
use Rattle.lldp_engine.specs.declared.command.Show.{Show}
use Rattle.lldp_engine.specs.declared.command.Show.TheVariants.{Neighbors}
use Rattle.lldp_engine.specs.AgentState.{PortState, AgentState}
use Rattle.lldp_engine.specs.NeighborLines.{numbered_lines, neighbors_lines}

-- The lines that are not before the cursor are those of this port's neighbors from the cursor's on,
-- and those of the ports behind this port.
pub record IsAt (ports : List PortState) (cursor : Cursor) (port : PortState) : Type 0 where
  pub few : cursor.neighbor ≤ length port.table.neighbors
  pub rest : drop cursor.before (neighbors_lines ports)
      ≡ numbered_lines port.name (cursor.neighbor + 1) (drop cursor.neighbor port.table.neighbors)
      ++ neighbors_lines (drop (cursor.port + 1) ports)

-- The cursor is at a neighbor of one of the ports, or behind the last neighbor of a port.
pub record IsBehind (ports : List PortState) (cursor : Cursor) : Type 0 where
  pub exists : cursor.port < length ports
  pub at : (port : PortState) → slice_get ports cursor.port ≡ Some port → IsAt ports cursor port

-- The cursor is at the first line, or at a neighbor.
abbrev pub IsCursor : List PortState → Cursor → Type 0
IsCursor ports cursor = 0 < cursor.before → IsBehind ports cursor

-- The same for a show: only `show neighbors` has cursors behind its first line.
abbrev pub IsCursorOf : Show → AgentState → Cursor → Type 0
IsCursorOf show agent cursor = 0 < cursor.before → (show ≡ Neighbors) × IsBehind agent.ports cursor
