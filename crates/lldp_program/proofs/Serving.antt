-- The calls and the faults after one more connection.
use Rattle.std.proofs.Common.{suc, length, add-one, add-zero, ◌≡◌, ◌≤◌, ◌++◌, ℕ, List, [], ◌∷◌, Option, Some, None, Result, Ok, Err, ap, sym, refl, append_assoc, arith, ◌∙◌}
use Rattle.lldp_engine.specs.AgentState.{AgentState}
use Rattle.lldp_engine.specs.Past.{Past}
use Rattle.lldp_engine.specs.Standing.{Stands}
use Rattle.lldp_program.specs.Trace.Runs.{KeepsOn, followed}
use Rattle.lldp_program.specs.Devices.Acceptors.{Call, accepted, ran, Visit, logged}
use Rattle.std.specs.Prelude.{is_err}
use Rattle.std.specs.List.{filter}
use Rattle.lldp_program.specs.Serving.{faults_in, faults_of, calls_of}
use Rattle.lldp_program.specs.declared.trace.RunFault.{RunFault}
use Rattle.lldp_program.proofs.ForLaws.Listening.{asked_by_texts}

pub at_most_one : (r : Result (Unit {0}) RunFault) → faults_in r ≤ 1
at_most_one (Ok done) = omega arith
at_most_one (Err fault) = omega arith

pub keeps_on_then : (past : Past) (a b : AgentState) → KeepsOn past a → ((between : Past) → Stands between a → KeepsOn between b) → KeepsOn past b
keeps_on_then past a b first next =
    let more = next (followed past first.0) first.1 in
    let same : followed (followed past first.0) more.0 ≡ followed past (more.0 ++ first.0) =
    ap {B = Past} (λ events. record { options = past.options; events = events }) (sym (append_assoc more.0 first.0 past.events)) in
    (more.0 ++ first.0, rw same at more.1, rw same at more.2, rw same at more.3)

pub logged_none : {C : Type 0} → (told : Option (List (Call C))) → logged [] told ≡ told
logged_none None = refl
logged_none (Some earlier) = refl

pub logged_then : {C : Type 0} → (first next : List (Call C)) (told : Option (List (Call C))) → logged next (logged first told) ≡ logged (next ++ first) told
logged_then first next None = refl
logged_then first next (Some earlier) = ap Some (sym (append_assoc next first earlier))

-- accepting one more connection and running its trace adds these two calls
pub logged_visit : {C : Type 0} → (visits : List (Visit C)) (visit : Visit C) (first told accepting running : Option (List (Call C)))
    → told ≡ logged (calls_of visits) first → accepting ≡ logged (accepted visit.connection ∷ []) told → running ≡ logged (ran visit ∷ []) accepting
    → running ≡ logged (calls_of (visit ∷ visits)) first
logged_visit visits visit first told accepting running before accepts runs =
    runs ∙ ap (logged (ran visit ∷ [])) (accepts ∙ ap (logged (accepted visit.connection ∷ [])) before ∙ logged_then (calls_of visits) (accepted visit.connection ∷ []) first)
    ∙ logged_then (accepted visit.connection ∷ calls_of visits) (ran visit ∷ []) first

-- `faults_of` counts the runs that ended with a fault
pub faults_counted : (results : List (Result (Unit {0}) RunFault)) → faults_of results ≡ length (filter is_err results)
faults_counted [] = refl
faults_counted (Ok done ∷ earlier) = add-zero (faults_of earlier) ∙ faults_counted earlier
faults_counted (Err fault ∷ earlier) = add-one (faults_of earlier) ∙ ap (λ (n : ℕ). suc n) (faults_counted earlier)

pub ruleset words_ask_to_listen = (asked_by_texts, faults_counted)
