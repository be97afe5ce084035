-- The neighbors that a port holds, in the struct for C.
use Rattle.std.specs.Prelude.{◌≡◌, ℕ, not, List, [], ◌∷◌, take, Option, Some, None, is_none, slice_get}
use Rattle.std.specs.Option.{option_map}
use Rattle.lldp_pdu.specs.Check.{Check}
use Rattle.lldp_table.specs.Events.{Neighbor}
use Rattle.lldp_engine.specs.AgentState.{AgentState, PortState}
use Rattle.lldpa_c.specs.declared.holder.LldpaAgent.{LldpaAgent}
use Rattle.lldpa_c.specs.declared.held.LldpaHeld.{LldpaHeld}
use Rattle.lldpa_c.specs.declared.answer.TheConstants.{OUT_OF_RANGE, NO_ROOM, NOT_OPEN, NO_PORT}
use Rattle.lldpa_c.specs.Answer.{is_over}
use Rattle.lldpa_c.specs.Frame.{has_no_port}
use Rattle.lldpa_c.specs.Examined.{Tells}

-- the neighbors of a port, in the order of its table; none if there is no such port
abbrev pub neighbors_on : Option PortState → List Neighbor
neighbors_on None = []
neighbors_on (Some port) = port.table.neighbors

abbrev pub neighbors_at : AgentState → ℕ → List Neighbor
neighbors_at agent port = neighbors_on (slice_get agent.ports port)

-- the neighbors of a port that aged out at its last tick, if no other call changed its table since
abbrev pub gone_on : Option PortState → List Neighbor
gone_on None = []
gone_on (Some port) = port.table.gone

abbrev pub gone_at : AgentState → ℕ → List Neighbor
gone_at agent port = gone_on (slice_get agent.ports port)

-- nothing is written about an agent if the handle is not open
abbrev pub open_checks : LldpaAgent → List (Check ℕ)
open_checks handle = record { fails = not handle.is_open; fault = NOT_OPEN } ∷ []

-- Nothing is written about a port if the handle is not open, or if there is no such port.
abbrev pub count_checks : LldpaAgent → ℕ → List (Check ℕ)
count_checks handle port =
    record { fails = not handle.is_open; fault = NOT_OPEN }
    ∷ record { fails = has_no_port handle.held.agent port; fault = NO_PORT }
    ∷ []

-- A neighbor is not written if the handle is not open, there is no such port, there is no such
-- neighbor, or the neighbor's LLDPDU does not fit in this many octets.
abbrev pub found_checks : LldpaAgent → ℕ → Option Neighbor → ℕ → List (Check ℕ)
found_checks handle port found room =
    record { fails = not handle.is_open; fault = NOT_OPEN }
    ∷ record { fails = has_no_port handle.held.agent port; fault = NO_PORT }
    ∷ record { fails = is_none found; fault = OUT_OF_RANGE }
    ∷ record { fails = is_over room (option_map (λ neighbor. neighbor.octets) found); fault = NO_ROOM }
    ∷ []

-- the checks of a neighbor that a port holds, with this index, and of one that aged out
abbrev pub neighbor_checks : LldpaAgent → ℕ → ℕ → ℕ → List (Check ℕ)
neighbor_checks handle port index room = found_checks handle port (slice_get (neighbors_at handle.held.agent port) index) room

abbrev pub gone_checks : LldpaAgent → ℕ → ℕ → ℕ → List (Check ℕ)
gone_checks handle port index room = found_checks handle port (slice_get (gone_at handle.held.agent port) index) room

-- The neighbor's last stored LLDPDU, the fields of that LLDPDU and the seconds left are written.
pub record TellsNeighbor (neighbor : Neighbor) (room : List ℕ) (told : LldpaHeld) : Type 0 where
  pub octets : take told.pdu.extent room ≡ neighbor.octets
  pub pdu : Tells neighbor.octets told.pdu
  pub left : told.left ≡ neighbor.left
