-- What a run over a trace does.
use Rattle.std.specs.Prelude.{◌≡◌, ◌≢◌, ◌≤◌, ◌⊎◌, ℕ, List, [], ◌∷◌, ◌++◌, length, Option, Result, Ok, Err}
use Rattle.std.specs.Io.KnownBytes.{Appends, Consumes, IsAtEnd}
use Rattle.lldp_engine.specs.Event.{Event}
use Rattle.lldp_engine.specs.AgentState.{AgentState}
use Rattle.lldp_engine.specs.Past.{Past}
use Rattle.lldp_engine.specs.Standing.{Stands}
use Rattle.lldp_engine.specs.Headline.{Promised}
use Rattle.lldp_engine.specs.Sending.{HaveSentExactly}
use Rattle.lldp_program.specs.Devices.Counts.{one_more}
use Rattle.lldp_program.specs.Ranges.{most_reads}
use Rattle.lldp_program.specs.Trace.Lines.{lines_of, ended_lines}
use Rattle.lldp_program.specs.Trace.Items.{Item, after_all, text_of, text_of_all, items_of_lines}
use Rattle.lldp_program.specs.declared.trace.RunFault.{RunFault}
use Rattle.lldp_program.specs.declared.trace.RunFault.TheVariants.{Read, Write, InputTooLong}

-- `part` is the beginning of `whole`, but not all of it
pub record IsCutOff (whole part : List ℕ) : Type 0 where
  pub rest : List ℕ
  pub joined : whole ≡ part ++ rest
  pub missing : rest ≢ []

-- All items were done. Their text was written, and the agent has the state after them. `Promised`
-- holds for the agent: its tables hold the last stored frames.
pub record Done (past : Past) (items : List Item) (old new : Option (List ℕ)) (agent : AgentState) : Type 0 where
  pub written : Appends old new (text_of_all past items)
  pub stands : Stands (after_all past items) agent
  pub promised : Promised (after_all past items) agent

-- The output of an item failed. The agent has the state after that item, and `Promised` holds for
-- it. The text of the items before was written, and only a part of the item's own text.
pub record Failed (past : Past) (items : List Item) (old new : Option (List ℕ)) (agent : AgentState) : Type 0 where
  pub before : List Item
  pub item : Item
  pub later : List Item
  pub in_order : items ≡ before ++ item ∷ later
  pub part : List ℕ
  pub cut_off : IsCutOff (text_of (after_all past before) item) part
  pub written : Appends old new (text_of_all past before ++ part)
  pub stands : Stands (after_all past (before ++ item ∷ [])) agent
  pub promised : Promised (after_all past (before ++ item ∷ [])) agent

-- The run stopped at an item whose output failed. The LF of its line was read, or its line is the
-- last one and the end was reached.
abbrev pub StoppedAt : Past → List ℕ → Option (List ℕ) → Option (List ℕ) → Option (List ℕ) → AgentState → Type 0
StoppedAt past input left old new agent =
    Failed past (items_of_lines past (ended_lines input)) old new agent
    ⊎ (IsAtEnd left × Failed past (items_of_lines past (lines_of input)) old new agent)

-- What a run over this input did, by its answer. Ok: all lines were done. Read and InputTooLong:
-- each line whose LF was read was done. Write: the run stopped at an item whose output failed.
abbrev pub Ends : {T : Type 0} → Past → List ℕ → Option (List ℕ) → Option (List ℕ) → Option (List ℕ) → AgentState →
    Result T RunFault → Type 0
Ends past input left old new agent (Ok done) = Done past (items_of_lines past (lines_of input)) old new agent
Ends past input left old new agent (Err Write) = StoppedAt past input left old new agent
Ends past input left old new agent (Err fault) = Done past (items_of_lines past (ended_lines input)) old new agent

-- Ok: all of the input was read. InputTooLong: at least 4,294,967,295 octets were read.
abbrev pub HasRead : {T : Type 0} → Option (List ℕ) → List ℕ → Result T RunFault → Type 0
HasRead left input (Ok done) = IsAtEnd left
HasRead left input (Err InputTooLong) = most_reads ≤ length input
HasRead left input (Err fault) = Unit {0}

-- A run: the octets that it read, what its answer says about them, and what it did for every past
-- that led to the agent's state. The source had `to_come` before the run and has `left` after it;
-- the octets of the sink were `old` and are `new`.
pub record HasRun {T : Type 0} (to_come left old new : Option (List ℕ)) (before after : AgentState)
    (result : Result T RunFault) : Type 0 where
  pub input : List ℕ
  pub consumed : Consumes to_come left input
  pub read : HasRead left input result
  pub ends : (past : Past) → Stands past before → Ends past input left old new after result

-- the number of failed reads after a run: one more if it returns Read, else the same as before
abbrev pub read_failures_after : {T : Type 0} → ℕ → Result T RunFault → ℕ
read_failures_after failures (Err Read) = one_more failures
read_failures_after failures _ = failures

-- the number of failed writes after a run: one more if it returns Write, else the same as before
abbrev pub write_failures_after : {T : Type 0} → ℕ → Result T RunFault → ℕ
write_failures_after failures (Err Write) = one_more failures
write_failures_after failures _ = failures

-- How many reads returned the end, before and after a run: one more if it returns Ok, the same if
-- it returns Read or InputTooLong, and at most one more if it returns Write.
abbrev pub EndsTold : {T : Type 0} → ℕ → ℕ → Result T RunFault → Type 0
EndsTold before after (Ok done) = after ≡ one_more before
EndsTold before after (Err Read) = after ≡ before
EndsTold before after (Err Write) = (after ≡ before) ⊎ (after ≡ one_more before)
EndsTold before after (Err InputTooLong) = after ≡ before

-- the past with more events, newest first
abbrev pub followed : Past → List Event → Past
followed past events = record { options = past.options; events = events ++ past.events }

-- The agent has the state after the past and some more allowed events, and `Promised` holds for it:
-- its tables hold the last stored frames. Its ports have sent exactly what was due (`HaveSentExactly`).
abbrev pub KeepsOn : Past → AgentState → Type 0
KeepsOn past agent =
    (events : List Event) × Stands (followed past events) agent × Promised (followed past events) agent
    × HaveSentExactly (followed past events)
