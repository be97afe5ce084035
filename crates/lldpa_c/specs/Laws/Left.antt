-- Agents that leave.
use Rattle.std.specs.Prelude.{◌≡◌, ℕ, ◌&&◌, Bool, true, false, List, ◌∷◌, length, map, None, Some, slice_get}
use Rattle.std.specs.List.{filter, enumerate_from}
use Rattle.lldp_transmit.specs.declared.event.Mark.{Mark}
use Rattle.lldp_transmit.specs.declared.event.Mark.TheVariants.{Shutdown}
use Rattle.lldp_engine.specs.declared.port.status.Status.TheVariants.{Disabled}
use Rattle.lldp_engine.specs.AgentState.{AgentState, PortState}
use Rattle.lldp_engine.specs.Event.{set, status}
use Rattle.lldp_engine.specs.Heard.{heard_by}
use Rattle.lldp_engine.specs.Past.{Past}
use Rattle.lldp_engine.specs.Standing.{Stands}
use Rattle.lldp_engine.specs.Status.{transmits}
use Rattle.lldpa_c.specs.declared.holder.LldpaAgent.{LldpaAgent}
use Rattle.lldpa_c.specs.declared.marks.LldpaMarks.{LldpaMarks}
use Rattle.lldpa_c.specs.Laws.Passed.{AreItems}
use Rattle.lldpa_c.specs.Leaving.{Leaves, Left, with_leaving}

-- a port that may transmit and is active, with its number
abbrev pub sends_goodbye : ℕ × PortState → Bool
sends_goodbye numbered = transmits numbered.1.status && numbered.1.machine.active

-- a shutdown frame on each port that was active, by ascending port
abbrev pub goodbyes : AgentState → List (ℕ × Mark)
goodbyes agent = map (λ numbered. (numbered.0, Shutdown)) (filter sends_goodbye (enumerate_from 0 agent.ports))

-- the port hears no frame, whether its link is up or not, and may not transmit
pub record IsSilent (port : PortState) : Type 0 where
  pub hears : (up : Bool) (frame : List ℕ) → heard_by port.status up frame ≡ None
  pub sends : transmits port.status ≡ false

-- Each port says goodbye if it was active, and then neither hears nor sends. C receives each frame.
-- Ports are disabled by ascending number.
pub record AreLeaving : Type 0 where
  pub sent : (before after : AgentState) (sent : List (ℕ × Mark)) → Leaves before after sent → sent ≡ goodbyes before
  pub silent : (before after : AgentState) (sent : List (ℕ × Mark)) (i : ℕ) (port : PortState) → Leaves before after sent →
      slice_get after.ports i ≡ Some port → IsSilent port
  pub past : (past : Past) → (with_leaving 2 past).events ≡ set (status 1 Disabled) ∷ set (status 0 Disabled) ∷ past.events
  pub stands : (before after : AgentState) (sent : List (ℕ × Mark)) (past : Past) → Leaves before after sent → Stands past before →
      Stands (with_leaving (length before.ports) past) after
  pub told : (before after : LldpaAgent) (marks_before marks : LldpaMarks) → Left before marks_before 0 after marks →
      (before.is_open ≡ true) × AreItems (goodbyes before.held.agent) marks
