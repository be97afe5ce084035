-- What is promised of every agent, for each past that it may have had.
use Rattle.std.specs.Prelude.{◌≡◌, ℕ, ◌<◌, ◌↔◌, IsTrue, Some, slice_get, List, length}
use Rattle.std.specs.List.{Contains, AllPairs, AllByRecursion}
use Rattle.lldp_transmit.specs.declared.event.Mark.TheVariants.{Ordinary, Shutdown}
use Rattle.lldp_transmit.specs.Moments.{Moment, moment, moments}
use Rattle.lldp_engine.specs.Event.{Event}
use Rattle.lldp_engine.specs.Frames.{IsSent}
use Rattle.lldp_engine.specs.AgentState.{AgentState, PortState}
use Rattle.lldp_engine.specs.Past.{Past, Sending, with_event, happened, past_of}
use Rattle.lldp_engine.specs.Port.Past.{settings_of, caused_at, causes_after}
use Rattle.lldp_engine.specs.Port.Headline.{HoldsLastStored}

-- Each port's table holds the last stored frames.
pub record Promised (past : Past) (agent : AgentState) : Type 0 where
  pub tables : (i : ℕ) (port : PortState) → slice_get agent.ports i ≡ Some port →
      HoldsLastStored past.options (past_of past i) port.table

-- Holds if the port in the first entry has a smaller number than the port in the second.
abbrev pub IsEarlierPort : Sending → Sending → Type 0
IsEarlierPort a b = a.0 < b.0

-- Returns the moment of port i at an event that follows this past: its label `sent` says whether an
-- ordinary frame goes, and `stop` whether the port stops.
abbrev pub moment_now : Past → Event → ℕ → Moment
moment_now past event i =
    let o = past.options in
    let earlier = past_of past i in
    moment (settings_of o) (moments (settings_of o) (causes_after o earlier)) (caused_at o (happened i event past.events) earlier)

-- The answer at an event lists port i with an ordinary frame if and only if one is sent: one is due
-- and the port's credit window is open. It lists port i with a shutdown frame if and only if the port
-- stops: it was active, and may no longer send. It lists nothing else, and the ports are in ascending
-- order.
pub record AnswersExactly (past : Past) (event : Event) (marks : List Sending) : Type 0 where
  pub ordinary : (i : ℕ) → i < length past.options.names → Contains marks (i, Ordinary) ↔ IsTrue (moment_now past event i).sent
  pub shutdown : (i : ℕ) → i < length past.options.names → Contains marks (i, Shutdown) ↔ IsTrue (moment_now past event i).stop
  pub only : AllByRecursion (λ mark. (mark.0 < length past.options.names) × IsSent mark.1) marks
  pub rising : AllPairs IsEarlierPort marks

-- What is promised of a step by an agent with this past: the answer is exact, and the promise holds
-- for the agent after the step.
pub record PromisedStep (past : Past) (event : Event) (marks : List Sending) (agent : AgentState) : Type 0 where
  pub answered : AnswersExactly past event marks
  pub promised : Promised (with_event past event) agent
