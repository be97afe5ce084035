-- What the program reports about its end.
use Rattle.std.specs.Prelude.{◌≡◌, ◌⊎◌, ℕ, List, Option, Result, Ok, Err}
use Rattle.std.specs.Io.KnownBytes.{Appends, Keeps}
use Rattle.lldp_program.specs.Devices.Counts.{one_more}
use Rattle.lldp_program.specs.declared.fault.ProgramFault.{ProgramFault}
use Rattle.lldp_program.specs.Faults.ProgramFault.{line_of, status_of}
use Rattle.lldp_program.specs.Trace.Runs.{IsCutOff}

-- the stream that faults are written to: its octets, and how many writes failed
pub record Stream : Type 0 where
  pub taken : Option (List ℕ)
  pub failures : ℕ

abbrev pub stream : Option (List ℕ) → ℕ → Stream
stream taken failures = record { taken = taken; failures = failures }

-- The whole line of the fault was written, or a write failed after a part of the line.
abbrev pub IsTold : ProgramFault → Stream → Stream → Type 0
IsTold fault old new =
    (Appends old.taken new.taken (line_of fault) × (new.failures ≡ old.failures))
    ⊎ ((part : List ℕ) × IsCutOff (line_of fault) part × Appends old.taken new.taken part
    × (new.failures ≡ one_more old.failures))

-- How the program ended. Without a fault the status is 0, and nothing was written. With a fault the
-- status is the fault's, and its line was written.
abbrev pub EndsBy : Result (Unit {0}) ProgramFault → Stream → Stream → ℕ → Type 0
EndsBy (Ok done) old new status = (status ≡ 0) × Keeps old.taken new.taken × (new.failures ≡ old.failures)
EndsBy (Err fault) old new status = (status ≡ status_of fault) × IsTold fault old new

-- The program ended without a fault, or with this one.
abbrev pub EndsWellOr : ProgramFault → Stream → Stream → ℕ → Type 0
EndsWellOr fault old new status = EndsBy (Ok tt) old new status ⊎ EndsBy (Err fault) old new status
