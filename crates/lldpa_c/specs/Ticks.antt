-- The contract of ticks: each tick is one second that passes.
use Rattle.std.specs.Prelude.{◌≡◌, ℕ, zero, suc, ◌+◌, ◌<◌, ◌≤◌, true, false, List, [], ◌∷◌, length}
use Rattle.lldp_transmit.specs.declared.event.Mark.{Mark}
use Rattle.lldp_engine.specs.AgentState.{AgentState, PortState}
use Rattle.lldp_engine.specs.Event.{tick}
use Rattle.lldp_engine.specs.Past.{Past, with_event, marks_of}
use Rattle.lldp_engine.specs.Standing.{Stands}
use Rattle.lldp_engine.specs.Headline.{PromisedStep}
use Rattle.lldp_engine.specs.Sending.{HaveSentExactly}
use Rattle.lldp_engine.specs.Code.Step.{agent_after, agent_marks}
use Rattle.lldpa_c.specs.declared.holder.LldpaAgent.{LldpaAgent}
use Rattle.lldpa_c.specs.declared.marks.LldpaMarks.{LldpaMarks}
use Rattle.lldpa_c.specs.declared.ticks.LldpaTicks.{LldpaTicks}
use Rattle.lldpa_c.specs.Marks.{TellsMarks}

-- how many neighbors these ports hold
abbrev pub held_by : List PortState → ℕ
held_by [] = 0
held_by (port ∷ ports) = length port.table.neighbors + held_by ports

-- how many neighbors an agent holds
abbrev pub neighbors_held : AgentState → ℕ
neighbors_held agent = held_by agent.ports

-- this many neighbors aged out: the agent holds this many fewer than before
abbrev pub AgesOut : AgentState → AgentState → ℕ → Type 0
AgesOut before after gone = gone + neighbors_held after ≡ neighbors_held before

-- an agent after this many ticks
abbrev pub ticked : ℕ → AgentState → AgentState
ticked zero agent = agent
ticked (suc n) agent = agent_after tick (ticked n agent)

-- the past with this many ticks added
abbrev pub with_ticks : ℕ → Past → Past
with_ticks zero past = past
with_ticks (suc n) past = with_event (with_ticks n past) tick

-- at the next tick no port sends and no neighbor ages out
pub record IsQuiet (agent : AgentState) : Type 0 where
  pub sends : agent_marks tick agent ≡ []
  pub ages : neighbors_held (agent_after tick agent) ≡ neighbors_held agent

-- These frames were sent and this many neighbors aged out at the last of n ticks: none if n is 0.
abbrev pub LastDid : ℕ → AgentState → List (ℕ × Mark) → ℕ → Type 0
LastDid zero agent sent gone = (sent ≡ []) × (gone ≡ 0)
LastDid (suc n) agent sent gone = (sent ≡ agent_marks tick (ticked n agent)) × AgesOut (ticked n agent) (ticked (suc n) agent) gone

-- What is promised of the last of n more ticks by an agent with this past: nothing if n is 0.
abbrev pub LastPromised : ℕ → Past → List (ℕ × Mark) → AgentState → Type 0
LastPromised zero past sent after = Unit {0}
LastPromised (suc n) past sent after =
    (sent ≡ marks_of (with_ticks (suc n) past)) × PromisedStep (with_ticks n past) tick sent after
    × HaveSentExactly (with_ticks (suc n) past)

-- `taken` of the `asked` ticks were applied. Before the last of them no port sent and no neighbor
-- aged out. If fewer were applied than asked, a port sent or a neighbor aged out at the last.
pub record Takes (asked taken : ℕ) (before after : AgentState) (sent : List (ℕ × Mark)) (gone : ℕ) : Type 0 where
  pub few : taken ≤ asked
  pub is : after ≡ ticked taken before
  pub last : LastDid taken before sent gone
  pub quiet : (k : ℕ) → k + 1 < taken → IsQuiet (ticked k before)
  pub why : taken < asked → (sent ≡ []) × (gone ≡ 0) → ⊥
  pub stands : (past : Past) → Stands past before → Stands (with_ticks taken past) after
  pub promised : (past : Past) → Stands past before → LastPromised taken past sent after

-- Ticks are applied if the handle is open. Otherwise nothing is written.
pub record TicksTaken (before : LldpaAgent) (asked : ℕ) (marks_before : LldpaMarks) (told_before : LldpaTicks) (answer : ℕ)
    (after : LldpaAgent) (marks : LldpaMarks) (told : LldpaTicks) : Type 0 where
  pub taken : before.is_open ≡ true → (answer ≡ 0) × (after.is_open ≡ true)
      × ((sent : List (ℕ × Mark)) × TellsMarks sent marks
      × Takes asked told.taken before.held.agent after.held.agent sent told.aged_out)
  pub closed : before.is_open ≡ false →
      (answer ≡ 102) × (after.is_open ≡ false) × (marks ≡ marks_before) × (told ≡ told_before)
