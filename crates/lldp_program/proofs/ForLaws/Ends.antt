-- Counts, reports and statuses.
use Rattle.std.proofs.Common.{◌≡◌, ◌≢◌, ◌≤◌, ◌<◌, ℕ, ◌+◌, true, List, [], ◌∷◌, ◌++◌, length, Option, Some, None, Result, Ok, Err, refl, sym, ap, subst, ◌∙◌, inl, inr, append-nil, arith}
use Rattle.std.specs.Prelude.{is_ok, codes}
use Rattle.std.proofs.lemmas.Grind.{common_steps}
use Rattle.std.proofs.lemmas.List.{length-append}
use Rattle.clap.specs.Walk.{Text, one_of}
use Rattle.lldp_engine.specs.declared.agent.open_fault.OpenFault.TheVariants.{Memory}
use Rattle.lldp_engine.specs.Options.{Options}
use Rattle.lldp_engine.specs.Past.{opened}
use Rattle.lldp_program.specs.Trace.Items.{text}
use Rattle.lldp_program.specs.Trace.Runs.{Ends, HasRead}
use Rattle.lldp_program.specs.declared.device.DeviceFault.{DeviceFault}
use Rattle.lldp_program.specs.declared.fault.ProgramFault.{ProgramFault}
use Rattle.lldp_program.specs.declared.fault.ProgramFault.TheVariants as program
use Rattle.lldp_program.specs.declared.trace.RunFault.{RunFault}
use Rattle.lldp_program.specs.declared.trace.RunFault.TheVariants.{Write}
use Rattle.lldp_program.specs.Devices.Counts.{one_more}
use Rattle.lldp_program.specs.Faults.ProgramFault.{line_of, ended_by}
use Rattle.lldp_program.specs.Faults.Told.{EndsBy, EndsWellOr, IsTold, Stream, stream}
use Rattle.lldp_program.specs.Program.{HasAnswered, RanBut, RanBy}
use Rattle.lldp_program.specs.Laws.Counted.{CountsCalls}
use Rattle.lldp_program.specs.Laws.Ends.{AnswersByStatus, EndsTelling, RefusesAloud, RunsItsInput, TellsFault}

abbrev most : ℕ
most = 18446744073709551615

rises : (n : ℕ) → n < most → one_more n ≡ n + 1
rises n h = grind (arith, common_steps)

pub counts_calls : (n m : ℕ) → CountsCalls n m
counts_calls n m =
    record {
      next = rises n;
      last = refl;
      worked = refl;
      failed = λ fault. refl;
      end = refl;
      some = grind (arith, common_steps);
      none = λ fault. refl;
      reads = refl;
      writes = refl;
      all = (λ e. e, λ e. e);
      read = (λ e. e, λ e. e);
      wrote = (λ e. e, λ e. e);
      long = (λ e. e, λ e. e);
    }

-- ---- reports

whole : (fault : ProgramFault) (old new : List ℕ) (n : ℕ) → n < most → IsTold fault (stream (Some old) n) (stream (Some new) n) → new ≡ old ++ line_of fault
whole fault old new n h (inl told) = told.0
whole fault old new n h (inr (part, is, appended, failed)) = let e = rises n h in absurd (omega (arith, e, failed))

cut : (fault : ProgramFault) (old new : List ℕ) (n m : ℕ) → IsTold fault (stream (Some old) n) (stream (Some new) m) → m ≢ n
    → (m ≡ one_more n) × (part : List ℕ) × (rest : List ℕ) × (rest ≢ []) × (line_of fault ≡ part ++ rest) × (new ≡ old ++ part)
cut fault old new n m (inl told) h = absurd (h told.1)
cut fault old new n m (inr (part, is, appended, failed)) h = (failed, part, is.rest, is.missing, is.joined, appended)

pub tells_fault : (fault : ProgramFault) (old new : List ℕ) (n m : ℕ) → TellsFault fault old new n m
tells_fault fault old new n m = record { whole = whole fault old new n; cut = cut fault old new n m; told = inl (refl, refl) }

-- no line is empty
some_line : (fault : ProgramFault) → line_of fault ≡ [] → ⊥
some_line fault e = grind (arith, common_steps)

untold : (fault : ProgramFault) (old : List ℕ) (n : ℕ) → n < most → IsTold fault (stream (Some old) n) (stream (Some old) n) → ⊥
untold fault old n h told =
    let e = ap length (whole fault old old n h told) ∙ length-append old (line_of fault) in
    some_line fault (empty (line_of fault) (omega (arith, e)))
  where
    empty : (xs : List ℕ) → length xs ≡ 0 → xs ≡ []
    empty [] e = refl
    empty (x ∷ xs) e = cc

quiet : (fault : ProgramFault) (old : List ℕ) (n status : ℕ) → n < most → EndsWellOr fault (stream (Some old) n) (stream (Some old) n) status → status ≡ 0
quiet fault old n status h (inl well) = well.0
quiet fault old n status h (inr badly) = absurd (untold fault old n h badly.1)

pub ends_telling : (fault : ProgramFault) (old new : List ℕ) (n m status : ℕ) → EndsTelling fault old new n m status
ends_telling fault old new n m status =
    record {
      well = λ e. e;
      badly = λ e. e;
      quiet = quiet fault old n status;
    }

pub refuses_aloud : (words : List Text) (old : List ℕ) (n : ℕ) → RefusesAloud words old n
refuses_aloud words old n h (inl wrong) = wrong
refuses_aloud words old n h (inr (inl memory)) = absurd (untold (program.Opening Memory) old n h memory)
refuses_aloud words old n h (inr (inr (rows, fault, parse, refused, told))) = absurd (untold fault old n h told)

-- ---- statuses

by_run : (result : Result (Unit {0}) RunFault) (flushed : Result (Unit {0}) DeviceFault) (before after : Stream) (status : ℕ) → EndsBy (ended_by result flushed) before after status → status ≤ 1
by_run (Ok done) (Ok flushed) before after status e = omega (arith, e.0)
by_run (Ok done) (Err fault) before after status e = omega (arith, e.0)
by_run (Err fault) flushed before after status e = omega (arith, e.0)

quiet_run : (result : Result (Unit {0}) RunFault) (flushed : Result (Unit {0}) DeviceFault) (old : List ℕ) (n status : ℕ) → n < most
    → EndsBy (ended_by result flushed) (stream (Some old) n) (stream (Some old) n) status → status ≡ 0
quiet_run (Ok done) (Ok flushed) old n status h e = e.0
quiet_run (Ok done) (Err fault) old n status h e = absurd (untold (program.Run Write) old n h e.1)
quiet_run (Err fault) flushed old n status h e = absurd (untold (program.Run fault) old n h e.1)

by_socket : (before after : Stream) (status : ℕ) → EndsWellOr program.Socket before after status → status ≤ 1
by_socket before after status (inl e) = omega (arith, e.0)
by_socket before after status (inr e) = omega (arith, e.0)

by_write : (before after : Stream) (status : ℕ) → EndsWellOr (program.Run Write) before after status → status ≤ 1
by_write before after status (inl e) = omega (arith, e.0)
by_write before after status (inr e) = omega (arith, e.0)

by_ran : (port : Option Text) (o : Options) (to_come left old new : Option (List ℕ)) (before after : Stream) (status : ℕ)
    → RanBut port o to_come left old new before after status → status ≤ 1
by_ran None o to_come left old new before after status ran = by_run ran.result ran.flushed before after status ran.ended
by_ran (Some port) o to_come left old new before after status ran = by_socket before after status ran.2

quiet_ran : (port : Option Text) (o : Options) (to_come left old new : Option (List ℕ)) (faults : List ℕ) (n status : ℕ) → n < most
    → RanBut port o to_come left old new (stream (Some faults) n) (stream (Some faults) n) status → status ≡ 0
quiet_ran None o to_come left old new faults n status h ran = quiet_run ran.result ran.flushed faults n status h ran.ended
quiet_ran (Some port) o to_come left old new faults n status h ran = quiet program.Socket faults n status h ran.2

at_most : (words : List Text) (to_come left old new : Option (List ℕ)) (before after : Stream) (status : ℕ)
    → HasAnswered words to_come left old new before after status → status ≤ 1
at_most words to_come left old new before after status (inl (asked, kept, ended)) = by_write before after status ended
at_most words to_come left old new before after status (inr ran) =
    by_ran (one_of (codes "listen") ran.rows) ran.options to_come left old new before after status ran.ran

quietly : (words : List Text) (to_come left old new : Option (List ℕ)) (faults : List ℕ) (n status : ℕ) → n < most
    → HasAnswered words to_come left old new (stream (Some faults) n) (stream (Some faults) n) status → status ≡ 0
quietly words to_come left old new faults n status h (inl (asked, kept, ended)) = quiet (program.Run Write) faults n status h ended
quietly words to_come left old new faults n status h (inr ran) =
    quiet_ran (one_of (codes "listen") ran.rows) ran.options to_come left old new faults n status h ran.ran

pub answers_by_status : (words : List Text) (to_come left old new : Option (List ℕ)) (faults : List ℕ) (told : Stream) (n status : ℕ)
    → AnswersByStatus words to_come left old new faults told n status
answers_by_status words to_come left old new faults told n status =
    record {
      most = at_most words to_come left old new (stream (Some faults) n) told status;
      quiet = λ h. quietly words to_come left old new faults n status h;
    }

-- ---- the text of a run

-- with status 0 the run had no fault
well : (result : Result (Unit {0}) RunFault) (flushed : Result (Unit {0}) DeviceFault) (before after : Stream) → EndsBy (ended_by result flushed) before after 0 → is_ok result ≡ true
well (Ok done) flushed before after e = refl
well (Err fault) flushed before after e = absurd (omega (arith, e.0))

ran_all : (o : Options) (input left old new : List ℕ) (before after : Stream) → RanBy o (Some input) (Some left) (Some old) (Some new) before after 0
    → (left ≡ []) × (new ≡ old ++ text (opened o) input)
ran_all o input left old new before after ran = done ran.result (well ran.result ran.flushed before after ran.ended) ran.read ran.ends
  where
    done : (r : Result (Unit {0}) RunFault) → is_ok r ≡ true → HasRead (Some left) ran.input r → Ends (opened o) ran.input (Some left) (Some old) (Some new) ran.agent r
        → (left ≡ []) × (new ≡ old ++ text (opened o) input)
    done (Ok t) e read ends =
        let all : ran.input ≡ input = sym (ran.consumed ∙ ap (λ l. ran.input ++ l) read ∙ append-nil ran.input) in
        (read, subst (λ i. new ≡ old ++ text (opened o) i) all ends.written)
    done (Err fault) e read ends = cc

by_port : (port : Option Text) (o : Options) (input left old new : List ℕ) (before after : Stream)
    → RanBut port o (Some input) (Some left) (Some old) (Some new) before after 0
    → (port ≡ None → (left ≡ []) × (new ≡ old ++ text (opened o) input)) × ((at : Text) → port ≡ Some at → (left ≡ input) × (new ≡ old))
by_port None o input left old new before after ran = (λ e. ran_all o input left old new before after ran, λ at e. cc)
by_port (Some port) o input left old new before after ran = (λ e. cc, λ at e. (ran.0, ran.1))

pub runs_its_input : (words : List Text) (input left old new : List ℕ) (before after : Stream) → RunsItsInput words input left old new before after
runs_its_input words input left old new before after ran =
    let port = by_port (one_of (codes "listen") ran.rows) ran.options input left old new before after ran.ran in
    (ran.rows, ran.options, ran.parse, ran.asks, ran.sound, port.0, port.1)

pub ruleset statuses_are_told = (tells_fault, ends_telling, answers_by_status, runs_its_input)
