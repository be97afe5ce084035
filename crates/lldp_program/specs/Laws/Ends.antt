-- How the program ends: what it reports, and what it wrote.
use Rattle.std.specs.Prelude.{◌≡◌, ◌≢◌, ◌<◌, ◌≤◌, ℕ, List, [], ◌++◌, Option, Some, None, Ok, Err, codes}
use Rattle.clap.specs.Walk.{Row, Text, one_of}
use Rattle.lldp_engine.specs.Options.{Options, fault_of}
use Rattle.lldp_engine.specs.Past.{opened}
use Rattle.lldp_program.specs.declared.fault.ProgramFault.{ProgramFault}
use Rattle.lldp_program.specs.CommandLine.Usage.{Asks, IsParse}
use Rattle.lldp_program.specs.Devices.Counts.{one_more}
use Rattle.lldp_program.specs.Faults.ProgramFault.{line_of, status_of}
use Rattle.lldp_program.specs.Faults.Told.{EndsBy, EndsWellOr, IsTold, Stream, stream}
use Rattle.lldp_program.specs.Program.{HasAnswered, HasRefused, HasRunWords, AreWrong}
use Rattle.lldp_program.specs.Trace.Items.{text}

-- The whole line of a fault stands behind what the stream had if no more writes failed. Otherwise
-- one more failed, and a part of the line stands there.
pub record TellsFault (fault : ProgramFault) (old new : List ℕ) (n m : ℕ) : Type 0 where
  pub whole : n < 18446744073709551615 → IsTold fault (stream (Some old) n) (stream (Some new) n) → new ≡ old ++ line_of fault
  pub cut : IsTold fault (stream (Some old) n) (stream (Some new) m) → m ≢ n →
      (m ≡ one_more n) × (part : List ℕ) × (rest : List ℕ) × (rest ≢ []) × (line_of fault ≡ part ++ rest) × (new ≡ old ++ part)
  pub told : IsTold fault (stream (Some old) n) (stream (Some (old ++ line_of fault)) n)

-- With a fault the status is the fault's, and the fault was told. Without one the status is 0, and
-- nothing was told. So a stream that stayed as it was means status 0.
pub record EndsTelling (fault : ProgramFault) (old new : List ℕ) (n m status : ℕ) : Type 0 where
  pub well : EndsBy (Ok tt) (stream (Some old) n) (stream (Some new) m) status → (status ≡ 0) × (new ≡ old) × (m ≡ n)
  pub badly : EndsBy (Err fault) (stream (Some old) n) (stream (Some new) m) status →
      (status ≡ status_of fault) × IsTold fault (stream (Some old) n) (stream (Some new) m)
  pub quiet : n < 18446744073709551615 → EndsWellOr fault (stream (Some old) n) (stream (Some old) n) status → status ≡ 0

-- If a stream stays as it was, only wrong arguments were refused.
abbrev pub RefusesAloud : List Text → List ℕ → ℕ → Type 0
RefusesAloud words old n =
    n < 18446744073709551615 → HasRefused words (stream (Some old) n) (stream (Some old) n) → AreWrong words

-- The status is 0 or 1. It is 0 if nothing was told.
pub record AnswersByStatus (words : List Text) (to_come left old new : Option (List ℕ)) (faults : List ℕ) (told : Stream) (n status : ℕ) :
    Type 0 where
  pub most : HasAnswered words to_come left old new (stream (Some faults) n) told status → status ≤ 1
  pub quiet : n < 18446744073709551615 →
      HasAnswered words to_come left old new (stream (Some faults) n) (stream (Some faults) n) status → status ≡ 0

-- With status 0 and no `--listen` all of the input was read, and exactly the text of an agent with
-- the options of the arguments was written. With `--listen` nothing was read or written.
abbrev pub RunsItsInput : List Text → List ℕ → List ℕ → List ℕ → List ℕ → Stream → Stream → Type 0
RunsItsInput words input left old new before after =
    HasRunWords words (Some input) (Some left) (Some old) (Some new) before after 0 →
    (rows : List Row) × (options : Options) × IsParse words rows × Asks rows options × (fault_of options ≡ None)
    × (one_of (codes "listen") rows ≡ None → (left ≡ []) × (new ≡ old ++ text (opened options) input))
    × ((port : Text) → one_of (codes "listen") rows ≡ Some port → (left ≡ input) × (new ≡ old))
