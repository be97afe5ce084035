-- A flush after a run, a run of a newly opened agent, and how the program ends.
use Rattle.std.proofs.Common.{◌≡◌, ◌∙◌, subst, Bool, true, false, refl, sym, arith, Some, None, ◌⊎◌, ℕ, List, ◌++◌, Option, Result, Ok, Err, inl, inr}
use Rattle.std.specs.Prelude.{◌≢◌, is_ok}
use Rattle.clap.specs.Walk.{Text}
use Rattle.clap.specs.declared.error.kind.ErrorKind.{ErrorKind}
use Rattle.clap.specs.declared.error.kind.ErrorKind.TheVariants.{DisplayHelp, DisplayVersion, OutOfMemory}
use Rattle.lldp_program.specs.CommandLine.Usage.{AskForHelp, MayFail}
use Rattle.std.specs.Io.KnownBytes.{Keeps}
use Rattle.lldp_engine.specs.AgentState.{AgentState}
use Rattle.lldp_engine.specs.Options.{Options}
use Rattle.lldp_engine.specs.Past.{Past, opened}
use Rattle.lldp_engine.specs.Standing.{Stands}
use Rattle.lldp_program.specs.Trace.Lines.{lines_of, ended_lines}
use Rattle.lldp_program.specs.Trace.Items.{Item, text_of_all, items_of_lines}
use Rattle.lldp_program.specs.Trace.Runs.{Done, Failed, Ends, HasRun, StoppedAt}
use Rattle.lldp_program.specs.Code.Output.{WrittenBy}
use Rattle.lldp_program.specs.Faults.ProgramFault.{line_of, ended_by}
use Rattle.lldp_program.specs.Faults.Told.{IsTold, EndsBy, EndsWellOr, Stream, stream}
use Rattle.lldp_program.specs.Devices.Counts.{failures_after}
use Rattle.lldp_program.specs.declared.device.DeviceFault.{DeviceFault}
use Rattle.lldp_program.specs.declared.fault.ProgramFault.{ProgramFault}
use Rattle.lldp_program.specs.declared.fault.ProgramFault.TheVariants as ending
use Rattle.lldp_program.specs.Program.{RanStreams, RanBy}
use Rattle.lldp_program.specs.declared.trace.RunFault.{RunFault}
use Rattle.lldp_program.specs.declared.trace.RunFault.TheVariants.{Read, Write, InputTooLong}
use Rattle.lldp_program.proofs.Texts.Written.{appends_and_kept}

done_kept : (past : Past) (items : List Item) (old mid new : Option (List ℕ)) (agent : AgentState) → Keeps mid new → Done past items old mid agent → Done past items old new agent
done_kept past items old mid new agent k d = record { written = appends_and_kept old mid new (text_of_all past items) d.written k; stands = d.stands; promised = d.promised }

failed_kept : (past : Past) (items : List Item) (old mid new : Option (List ℕ)) (agent : AgentState) → Keeps mid new → Failed past items old mid agent → Failed past items old new agent
failed_kept past items old mid new agent k f =
    record {
      before = f.before;
      item = f.item;
      later = f.later;
      in_order = f.in_order;
      part = f.part;
      cut_off = f.cut_off;
      written = appends_and_kept old mid new (text_of_all past f.before ++ f.part) f.written k;
      stands = f.stands;
      promised = f.promised;
    }

stopped_kept : (past : Past) (input : List ℕ) (left old mid new : Option (List ℕ)) (agent : AgentState) → Keeps mid new → StoppedAt past input left old mid agent → StoppedAt past input left old new agent
stopped_kept past input left old mid new agent k (inl f) = inl (failed_kept past (items_of_lines past (ended_lines input)) old mid new agent k f)
stopped_kept past input left old mid new agent k (inr f) = inr (f.0, failed_kept past (items_of_lines past (lines_of input)) old mid new agent k f.1)

ends_kept : {T : Type 0} → (past : Past) (input : List ℕ) (left old mid new : Option (List ℕ)) (agent : AgentState) (r : Result T RunFault) → Keeps mid new
    → Ends past input left old mid agent r → Ends past input left old new agent r
ends_kept past input left old mid new agent (Ok done) k e = done_kept past (items_of_lines past (lines_of input)) old mid new agent k e
ends_kept past input left old mid new agent (Err Read) k e = done_kept past (items_of_lines past (ended_lines input)) old mid new agent k e
ends_kept past input left old mid new agent (Err Write) k e = stopped_kept past input left old mid new agent k e
ends_kept past input left old mid new agent (Err InputTooLong) k e = done_kept past (items_of_lines past (ended_lines input)) old mid new agent k e

-- a flush after a run does not change what the run did
pub run_kept : {T : Type 0} → (to_come left old mid new : Option (List ℕ)) (before after : AgentState) (r : Result T RunFault)
    → HasRun to_come left old mid before after r → Keeps mid new → HasRun to_come left old new before after r
run_kept to_come left old mid new before after r h k =
    record {
      input = h.input;
      consumed = h.consumed;
      read = h.read;
      ends = λ past stands. ends_kept past h.input left old mid new after r k (h.ends past stands);
    }

-- `RanBy` holds for the options if `RanStreams` holds and the agent was just opened with them
pub opened_ran : (options : Options) (to_come left old new : Option (List ℕ)) (told_before told_after : Stream) (before after : AgentState) (status : ℕ)
    → Stands (opened options) before → RanStreams to_come left old new told_before told_after before after status → RanBy options to_come left old new told_before told_after status
opened_ran options to_come left old new told_before told_after before after status stands ran =
    record {
      result = ran.result;
      input = ran.run.input;
      consumed = ran.run.consumed;
      read = ran.run.read;
      agent = after;
      ends = ran.run.ends (opened options) stands;
      flushed = ran.flushed;
      ended = ran.ended;
    }

-- a fault is reported if its line was written, or a part of the line before a write failed
pub told_by : (fault : ProgramFault) (answer : Result (Unit {0}) DeviceFault) (line : List ℕ) (old new : Option (List ℕ)) (before after : ℕ) → line ≡ line_of fault → WrittenBy answer line old new
    → after ≡ failures_after before answer → IsTold fault (stream old before) (stream new after)
told_by fault (Ok done) line old new before after is written failures = inl (rw is at written, failures)
told_by fault (Err _) line old new before after is written failures = let cut = rw is at written in inr (cut.0, cut.1, cut.2, failures)

-- if P holds for what an adapter reports, P holds for its stream, with some number of failures
pub told_through : (P : Stream → Stream → Type 0) (old taken left new : Option (List ℕ)) (none failed : ℕ) → taken ≡ old → none ≡ 0 → left ≡ new → P (stream taken none) (stream left failed)
    → (n : ℕ) × P (stream old 0) (stream new n)
told_through P old taken left new none failed o z n h =
    (failed, subst (λ s. P (stream s 0) (stream new failed)) o (subst (λ k. P (stream taken k) (stream new failed)) z (subst (λ s. P (stream taken none) (stream s failed)) n h)))

-- if the run failed and its fault was reported, the program ended with that fault
pub failed_end : (r : Result (Unit {0}) RunFault) (fault : RunFault) (flushed : Result (Unit {0}) DeviceFault) (old new : Stream) (status : ℕ)
    → r ≡ Err fault → status ≡ 1 → IsTold (ending.Run fault) old new → EndsBy (ended_by r flushed) old new status
failed_end r fault flushed old new status e answered told = rw e (answered, told)

-- if the run had no fault, the flush decides how the program ended
pub flushed_end : (r : Result (Unit {0}) RunFault) (flushed : Result (Unit {0}) DeviceFault) (passed : Bool) (old new : Stream) (status : ℕ)
    → r ≡ Ok tt → passed ≡ is_ok flushed → (passed ≡ true → EndsBy (Ok tt) old new status) → (passed ≡ false → EndsBy (Err (ending.Run Write)) old new status) → EndsBy (ended_by r flushed) old new status
flushed_end r (Ok done) passed old new status e is well failed = rw e (well is)
flushed_end r (Err fault) passed old new status e is well failed = rw e (failed is)

-- ## Refused arguments

-- an error is a request for help or for the version, or it is neither
pub asked_for : (kind : ErrorKind) → ((kind ≡ DisplayHelp) ⊎ (kind ≡ DisplayVersion)) ⊎ ((kind ≢ DisplayHelp) × (kind ≢ DisplayVersion))
asked_for DisplayHelp = inl (inl refl)
asked_for DisplayVersion = inl (inr refl)
asked_for kind = inr ((λ e. cc), (λ e. cc))

pub asks_for_help : (words : List Text) (kind : ErrorKind) → (kind ≡ DisplayHelp) ⊎ (kind ≡ DisplayVersion) → (kind ≡ OutOfMemory) ⊎ MayFail words kind → AskForHelp words
asks_for_help words kind (inl help) (inl memory) = let bad : DisplayHelp ≡ OutOfMemory = sym help ∙ memory in cc
asks_for_help words kind (inr version) (inl memory) = let bad : DisplayVersion ≡ OutOfMemory = sym version ∙ memory in cc
asks_for_help words kind (inl help) (inr fails) = inl (subst (MayFail words) help fails)
asks_for_help words kind (inr version) (inr fails) = inr (subst (MayFail words) version fails)

pub ends_below_two : (old new : Stream) (status : ℕ) → EndsWellOr (ending.Run Write) old new status → status ≡ 2 → ⊥
ends_below_two old new status (inl well) two = omega (arith, well.0, two)
ends_below_two old new status (inr told) two = omega (arith, told.0, two)

pub keeps_same : (octets : Option (List ℕ)) → Keeps octets octets
keeps_same None = tt
keeps_same (Some octets) = refl
