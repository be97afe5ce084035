-- The contract of events that C passes to an agent.
use Rattle.std.specs.Prelude.{◌≡◌, ℕ, true, false, List}
use Rattle.std.specs.List.{AllByRecursion}
use Rattle.lldp_transmit.specs.declared.event.Mark.{Mark}
use Rattle.lldp_engine.specs.AgentState.{AgentState, IsPort, Allows}
use Rattle.lldp_engine.specs.Event.{Event, frame, link}
use Rattle.lldp_engine.specs.Frames.{IsSent}
use Rattle.lldp_engine.specs.Past.{Past, with_event, marks_of}
use Rattle.lldp_engine.specs.Standing.{Stands}
use Rattle.lldp_engine.specs.Headline.{PromisedStep}
use Rattle.lldp_engine.specs.Sending.{HaveSentExactly}
use Rattle.lldp_engine.specs.Code.Step.{agent_after, agent_marks}
use Rattle.lldpa_c.specs.declared.agent.Happening.{Happening}
use Rattle.lldpa_c.specs.declared.agent.Happening.TheVariants.{Frame, Link}
use Rattle.lldpa_c.specs.declared.holder.LldpaAgent.{LldpaAgent}
use Rattle.lldpa_c.specs.declared.marks.LldpaMarks.{LldpaMarks}
use Rattle.lldpa_c.specs.Marks.{TellsMarks}

-- the event for a frame or a link change on a port
abbrev pub happening_on : ℕ → Happening → Event
happening_on port (Frame octets) = frame port octets.now
happening_on port (Link up) = link port up

-- The contract of a step: the event changes `agent` to `after`, and `sent` are the frames to send.
pub record Steps (agent : AgentState) (event : Event) (after : AgentState) (sent : List (ℕ × Mark)) : Type 0 where
  pub next : after ≡ agent_after event agent
  pub marks : sent ≡ agent_marks event agent
  pub ports : AllByRecursion (λ mark. IsPort after mark.0 × IsSent mark.1) sent
  pub stands : (past : Past) → Stands past agent → Stands (with_event past event) after
  pub marks_past : (past : Past) → Stands past agent → sent ≡ marks_of (with_event past event)
  pub headline : (past : Past) → Stands past agent → PromisedStep past event sent after
  pub sending : (past : Past) → Stands past agent → HaveSentExactly (with_event past event)

-- the event was applied, and the frames to send were written to the struct for C
pub record Takes (before : LldpaAgent) (event : Event) (after : LldpaAgent) (told : LldpaMarks) : Type 0 where
  pub open_before : before.is_open ≡ true
  pub open_after : after.is_open ≡ true
  pub allowed : Allows before.held.agent event
  pub sent : List (ℕ × Mark)
  pub told_are : TellsMarks sent told
  pub steps : Steps before.held.agent event after.held.agent sent

-- An open agent applies an allowed event. Otherwise nothing changes, and `answer` says why.
pub record Answers (before : LldpaAgent) (event : Event) (told_before : LldpaMarks) (answer : ℕ) (after : LldpaAgent) (told : LldpaMarks) : Type 0 where
  pub taken : answer ≡ 0 → Takes before event after told
  pub closed : before.is_open ≡ false → (answer ≡ 102) × (after.is_open ≡ false) × (told ≡ told_before)
  pub allowed : before.is_open ≡ true → Allows before.held.agent event → answer ≡ 0
  pub refused : before.is_open ≡ true → ¬ (Allows before.held.agent event) →
      (answer ≡ 103) × (after.is_open ≡ true) × (after.held.agent ≡ before.held.agent) × (told ≡ told_before)
