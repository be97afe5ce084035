-- An agent leaves: its ports are disabled one after another.
use Rattle.std.specs.Prelude.{◌≡◌, ℕ, zero, suc, ◌+◌, ◌&&◌, Bool, true, false, List, [], ◌∷◌, ◌++◌, length}
use Rattle.std.specs.List.{AllByRecursion}
use Rattle.lldp_transmit.specs.declared.event.Mark.{Mark}
use Rattle.lldp_transmit.specs.declared.event.Mark.TheVariants.{Shutdown}
use Rattle.lldp_engine.specs.declared.port.status.Status.TheVariants.{Disabled}
use Rattle.lldp_engine.specs.AgentState.{AgentState, PortState}
use Rattle.lldp_engine.specs.Event.{Event, set, status}
use Rattle.lldp_engine.specs.Past.{Past, with_event}
use Rattle.lldp_engine.specs.Standing.{Stands}
use Rattle.lldp_engine.specs.Status.{transmits}
use Rattle.lldp_engine.specs.Code.Step.{agent_after, agent_marks}
use Rattle.lldpa_c.specs.declared.holder.LldpaAgent.{LldpaAgent}
use Rattle.lldpa_c.specs.declared.marks.LldpaMarks.{LldpaMarks}
use Rattle.lldpa_c.specs.Marks.{TellsMarks}

-- the event that disables a port
abbrev pub disables : ℕ → Event
disables port = set (status port Disabled)

-- an agent after its first n ports were disabled, and the frames that are sent for this
abbrev pub left : ℕ → AgentState → AgentState
left zero agent = agent
left (suc n) agent = agent_after (disables n) (left n agent)

abbrev pub sent_leaving : ℕ → AgentState → List (ℕ × Mark)
sent_leaving zero agent = []
sent_leaving (suc n) agent = sent_leaving n agent ++ agent_marks (disables n) (left n agent)

-- the past, followed by the events that disable the first n ports
abbrev pub with_leaving : ℕ → Past → Past
with_leaving zero past = past
with_leaving (suc n) past = with_event (with_leaving n past) (disables n)

-- a shutdown frame on port i, or none
abbrev pub shutdown_if : Bool → ℕ → List (ℕ × Mark)
shutdown_if true i = (i, Shutdown) ∷ []
shutdown_if false i = []

-- a shutdown frame on each port that may transmit and is active; port numbers begin with i
abbrev pub shutdowns : ℕ → List PortState → List (ℕ × Mark)
shutdowns i [] = []
shutdowns i (port ∷ ports) =
    shutdown_if (transmits port.status && port.machine.active) i ++ shutdowns (i + 1) ports

-- All ports are disabled. A shutdown frame is sent on each port that was active.
pub record Leaves (before after : AgentState) (sent : List (ℕ × Mark)) : Type 0 where
  pub is : after ≡ left (length before.ports) before
  pub sent_are : sent ≡ sent_leaving (length before.ports) before
  pub shutdowns_are : sent ≡ shutdowns 0 before.ports
  pub disabled : AllByRecursion (λ port. port.status ≡ Disabled) after.ports
  pub stands : (past : Past) → Stands past before → Stands (with_leaving (length before.ports) past) after

-- The ports are disabled if the handle is open. Otherwise nothing is written.
pub record Left (before : LldpaAgent) (marks_before : LldpaMarks) (answer : ℕ) (after : LldpaAgent) (marks : LldpaMarks) : Type 0 where
  pub left : before.is_open ≡ true → (answer ≡ 0) × (after.is_open ≡ true)
      × ((sent : List (ℕ × Mark)) × TellsMarks sent marks × Leaves before.held.agent after.held.agent sent)
  pub closed : before.is_open ≡ false → (answer ≡ 102) × (after.is_open ≡ false) × (marks ≡ marks_before)
