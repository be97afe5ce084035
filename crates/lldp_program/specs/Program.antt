-- What a run of the program does to its streams, or why the program refuses to run.
use Rattle.std.specs.Prelude.{◌≡◌, ◌≢◌, ◌<◌, ◌≤◌, ◌⊎◌, ℕ, List, Option, Some, None, Result, codes}
use Rattle.std.specs.Io.KnownBytes.{Consumes, Keeps}
use Rattle.clap.specs.Walk.{Row, Text, one_of}
use Rattle.clap.specs.declared.error.kind.ErrorKind.{ErrorKind}
use Rattle.clap.specs.declared.error.kind.ErrorKind.TheVariants.{DisplayHelp, DisplayVersion}
use Rattle.lldp_engine.specs.AgentState.{AgentState}
use Rattle.lldp_engine.specs.declared.agent.open_fault.OpenFault.TheVariants.{Memory}
use Rattle.lldp_engine.specs.Options.{IsRefusal, Options, fault_of}
use Rattle.lldp_engine.specs.Past.{opened}
use Rattle.lldp_program.specs.Faults.ProgramFault.{ended_by}
use Rattle.lldp_program.specs.Faults.Told.{EndsBy, EndsWellOr, IsTold, Stream}
use Rattle.lldp_program.specs.Ranges.{most_reads}
use Rattle.lldp_program.specs.Trace.Runs.{HasRun, HasRead, Ends}
use Rattle.lldp_program.specs.CommandLine.Usage.{AskForHelp, Asks, HasBadAddress, IsParse, MayFail}
use Rattle.lldp_program.specs.declared.device.DeviceFault.{DeviceFault}
use Rattle.lldp_program.specs.declared.fault.ProgramFault.{ProgramFault}
use Rattle.lldp_program.specs.declared.fault.ProgramFault.TheVariants.{Run, Socket, Opening, Address}
use Rattle.lldp_program.specs.declared.trace.RunFault.{RunFault}
use Rattle.lldp_program.specs.declared.trace.RunFault.TheVariants.{Write}

-- The agent ran the trace that was read, and the output was flushed. With status 0 neither had a
-- fault. Another status is that of the run's fault or, if the run had none, of the flush's fault, and
-- that fault was reported.
pub record RanStreams (to_come left old new : Option (List ℕ)) (told_before told_after : Stream)
    (before after : AgentState) (status : ℕ) : Type 0 where
  pub result : Result (Unit {0}) RunFault
  pub run : HasRun to_come left old new before after result
  pub flushed : Result (Unit {0}) DeviceFault
  pub ended : EndsBy (ended_by result flushed) told_before told_after status

-- a read failed, or a write or flush failed, or the run made all the reads that it may make
abbrev pub FailedBy : ℕ → ℕ → ℕ → Type 0
FailedBy reads writes calls = 0 < reads ⊎ (0 < writes ⊎ most_reads ≤ calls)

-- An agent opened with these options ran the trace that was read, and the output was flushed, as in
-- `RanStreams`.
pub record RanBy (options : Options) (to_come left old new : Option (List ℕ)) (told_before told_after : Stream)
    (status : ℕ) : Type 0 where
  pub result : Result (Unit {0}) RunFault
  pub input : List ℕ
  pub consumed : Consumes to_come left input
  pub read : HasRead left input result
  pub agent : AgentState
  pub ends : Ends (opened options) input left old new agent result
  pub flushed : Result (Unit {0}) DeviceFault
  pub ended : EndsBy (ended_by result flushed) told_before told_after status

-- Without `--listen` the program ran the trace of the reader. With `--listen` it read and wrote
-- nothing, and the status is 0 or that of a socket fault, which was reported.
abbrev pub RanBut : Option Text → Options → Option (List ℕ) → Option (List ℕ) → Option (List ℕ) → Option (List ℕ) →
    Stream → Stream → ℕ → Type 0
RanBut None options to_come left old new told_before told_after status =
    RanBy options to_come left old new told_before told_after status
RanBut (Some port) options to_come left old new told_before told_after status =
    Keeps to_come left × Keeps old new × EndsWellOr Socket told_before told_after status

-- The arguments have no fault by `clap`'s own specification. The options, each with the value of
-- its argument or its default, have no fault. The program did what the options ask for.
pub record HasRunWords (words : List Text) (to_come left old new : Option (List ℕ)) (told_before told_after : Stream)
    (status : ℕ) : Type 0 where
  pub rows : List Row
  pub parse : IsParse words rows
  pub options : Options
  pub asks : Asks rows options
  pub sound : fault_of options ≡ None
  pub ran : RanBut (one_of (codes "listen") rows) options to_come left old new told_before told_after status

-- A status other than 2: either the arguments ask for help or the version, nothing was read, and
-- the status is 0 or that of a failed write, which was reported; or the arguments have no fault,
-- and the program ran with them (`HasRunWords`).
abbrev pub HasAnswered : List Text → Option (List ℕ) → Option (List ℕ) → Option (List ℕ) → Option (List ℕ) →
    Stream → Stream → ℕ → Type 0
HasAnswered words to_come left old new told_before told_after status =
    (AskForHelp words × Keeps to_come left × EndsWellOr (Run Write) told_before told_after status)
    ⊎ HasRunWords words to_come left old new told_before told_after status

-- The arguments have this fault: an address among them cannot be read, or opening refuses their
-- options (first failed check, or lack of memory).
abbrev pub AreRefused : List Row → ProgramFault → Type 0
AreRefused rows (Address fault) = HasBadAddress rows fault
AreRefused rows (Opening fault) = (options : Options) × Asks rows options × IsRefusal options fault
AreRefused rows fault = ⊥

-- `clap` rejects the arguments with an error that is not a request for help or the version.
abbrev pub AreWrong : List Text → Type 0
AreWrong words = (kind : ErrorKind) × MayFail words kind × (kind ≢ DisplayHelp) × (kind ≢ DisplayVersion)

-- There was no memory to parse the arguments, or they were parsed, and an address or the opening
-- was refused. That fault was reported.
abbrev pub TellsRefusal : List Text → Stream → Stream → Type 0
TellsRefusal words told_before told_after =
    IsTold (Opening Memory) told_before told_after
    ⊎ ((rows : List Row) × (fault : ProgramFault) × IsParse words rows × AreRefused rows fault
    × IsTold fault told_before told_after)

-- Status 2: the arguments are wrong, or another refusal was reported.
abbrev pub HasRefused : List Text → Stream → Stream → Type 0
HasRefused words told_before told_after = AreWrong words ⊎ TellsRefusal words told_before told_after
