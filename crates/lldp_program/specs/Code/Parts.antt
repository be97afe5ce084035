-- The state of an output, and what a part of a run does.
use Rattle.std.specs.Prelude.{◌≡◌, ℕ, List, Option, Result, Ok, Err}
use Rattle.std.specs.Borrow.{GName}
use Rattle.lldp_engine.specs.AgentState.{AgentState}
use Rattle.lldp_engine.specs.Past.{Past}
use Rattle.lldp_engine.specs.Standing.{Stands}
use Rattle.lldp_program.specs.declared.device.DeviceFault.{DeviceFault}
use Rattle.lldp_program.specs.declared.output.Output.{Output as OwnOutput}
use Rattle.lldp_program.specs.declared.trace.Run.{Run}
use Rattle.lldp_program.specs.Trace.Items.{Item}
use Rattle.lldp_program.specs.Code.Output.{Output, SameSink}
use Rattle.lldp_program.specs.Trace.Runs.{Done, Failed}

-- the state of an output, with the octets, the failures and the place that its sink reports
abbrev pub output_state : {W : Type 0} → (W → Option (List ℕ)) → (W → ℕ) → (W → GName) → OwnOutput W → Output
output_state taken failures place output = record {
  taken = taken output.sink.now;
  failures = failures output.sink.now;
  place = place output.sink.now;
  sink = output.sink.ghost_name;
  waits = output.waiting;
  answer = output.answer;
}

-- the relation holds between the states of an output before and after a call
abbrev pub Between : {W : Type 0} → (W → Option (List ℕ)) → (W → ℕ) → (W → GName) → OwnOutput W → OwnOutput W →
    (Output → Output → Type 0) → Type 0
Between taken failures place old new Relation = Relation (output_state taken failures place old) (output_state taken failures place new)

-- Ok: all items were done. Err: the output of one of them failed.
abbrev pub Ended : {T : Type 0} → Result T DeviceFault → Past → List Item → Option (List ℕ) → Option (List ℕ) →
    AgentState → Type 0
Ended (Ok done) past items old new agent = Done past items old new agent
Ended (Err fault) past items old new agent = Failed past items old new agent

-- For every past that led to the agent's state, the items were done, or one of them failed.
pub record RunsItems {T : Type 0} (items : Past → List Item) (answer : Result T DeviceFault) (before after : AgentState)
    (old new : Output) : Type 0 where
  pub ended : (past : Past) → Stands past before → Ended answer past (items past) old.taken new.taken after
  pub same : SameSink answer old new

-- The run did these items, or one of them failed. The run still has the agent passed to it.
pub record Performs {W T : Type 0} (taken : W → Option (List ℕ)) (failures : W → ℕ) (place : W → GName)
    (old new : Run W) (items : Past → List Item) (answer : Result T DeviceFault) : Type 0 where
  pub agent : new.agent.ghost_name ≡ old.agent.ghost_name
  pub items_run : Between taken failures place old.output new.output
      (RunsItems items answer old.agent.now new.agent.now)
