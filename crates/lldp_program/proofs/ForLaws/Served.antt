-- If serving ends without a fault, all requested connections were served. A failed bind.
use Rattle.std.proofs.Common.{◌≡◌, ◌<◌, ℕ, ◌+◌, zero, suc, List, [], ◌∷◌, ◌++◌, length, Option, Some, Result, Ok, Err, refl, sym, ap, ◌∙◌, inl, inr, subst, arith}
use Rattle.std.specs.Prelude.{is_err, unwrap_or, slice_get, ◌==◌}
use Rattle.std.specs.List.{filter}
use Rattle.std.proofs.lemmas.Bool.{cases_Bool, eqb-true}
use Rattle.std.proofs.lemmas.List.{length-append}
use Rattle.lldp_engine.specs.AgentState.{AgentState}
use Rattle.lldp_program.specs.declared.arguments.Listening.{Listening}
use Rattle.lldp_program.specs.Devices.Acceptors.{Call, accepted, bound, ran, unbound, Visit, logged}
use Rattle.lldp_program.specs.Serving.{AreRun, HasAsked, HasListened, results_of, calls_of, calls_with, this_host, without_fault}
use Rattle.lldp_program.specs.Trace.Runs.{HasRun}
use Rattle.lldp_program.specs.declared.device.DeviceFault.{DeviceFault}
use Rattle.lldp_program.specs.declared.device.DeviceFault.TheVariants.{Failed}
use Rattle.lldp_program.specs.Laws.Served.{AreBetween, AreServed, FellShort, ServesAll, asked_in_turn, faulty_among}
use Rattle.lldp_program.proofs.Serving.{faults_counted}

-- a run had a fault, unless the answer is Ok
some_faulty : (faulty : ℕ) (fault : DeviceFault) → Err fault ≡ without_fault (Ok faulty) → 0 < faulty
some_faulty zero fault e = cc
some_faulty (suc n) fault e = omega arith

module _ {C : Type 0} where
  as_many : (visits : List (Visit C)) → length (results_of visits) ≡ length visits
  as_many [] = refl
  as_many (visit ∷ visits) = ap (λ (n : ℕ). suc n) (as_many visits)

  in_turn : (visits : List (Visit C)) → calls_of visits ≡ asked_in_turn visits
  in_turn [] = refl
  in_turn (visit ∷ visits) = ap (λ (calls : List (Call C)). ran visit ∷ accepted visit.connection ∷ calls) (in_turn visits)

  faulty_results : (visits : List (Visit C)) → length (filter is_err (results_of visits)) ≡ faulty_among visits
  faulty_results [] = refl
  faulty_results (visit ∷ visits) = elim (cases_Bool (is_err visit.result)) [
    | inl e ↦ rw e (ap (λ (n : ℕ). suc n) (faulty_results visits))
    | inr e ↦ rw e (faulty_results visits)
  ]

  module _ (to_come taken : C → Option (List ℕ)) where
    abbrev Ran : Visit C → AgentState → AgentState → Type 0
    Ran visit from to = HasRun (to_come visit.connection) visit.left (taken visit.connection) visit.new from to visit.result

    states_of : (visits : List (Visit C)) (before after : AgentState) → AreRun to_come taken visits before after → List AgentState
    states_of [] before after run = after ∷ []
    states_of (visit ∷ earlier) before after (between, run, has) = after ∷ states_of earlier before between run

    are_between : (visits : List (Visit C)) (before after : AgentState) (run : AreRun to_come taken visits before after)
        → AreBetween to_come taken visits before after (states_of visits before after run)
    unfolding states_of
    are_between [] before after run = record {
      newest = refl;
      oldest = ap Some run;
      runs = λ i visit from to at one other. cc;
    }
    are_between (visit ∷ earlier) before after (between, run, has) = let rest = are_between earlier before between run in record {
      newest = refl;
      oldest = rest.oldest;
      runs = go rest;
    } where
      go : AreBetween to_come taken earlier before between (states_of earlier before between run) → (i : ℕ) (other : Visit C) (from to : AgentState) → slice_get (visit ∷ earlier) i ≡ Some other
          → slice_get (after ∷ states_of earlier before between run) (1 + i) ≡ Some from → slice_get (after ∷ states_of earlier before between run) i ≡ Some to
          → Ran other from to
      go rest zero other from to at one next =
          let first = rest.newest in
          let same : visit ≡ other = cc in
          let from_here : between ≡ from = cc in
          let to_here : after ≡ to = cc in
          subst (λ (v : Visit C). Ran v from to) same (subst (λ (state : AgentState). Ran visit state to) from_here (subst (Ran visit between) to_here has))
      go rest (suc i) other from to at one next = let again : suc (1 + i) ≡ 1 + suc i = omega arith in
          rest.runs i other from to at (ap (slice_get (after ∷ states_of earlier before between run)) again ∙ one) next

  served : (to_come taken : C → Option (List ℕ)) (old new : Option (List (Call C))) (connections faulty : ℕ) (before after : AgentState) → HasAsked to_come taken old new connections before after (Ok faulty) → AreServed to_come taken old new before after connections faulty
  served to_come taken old new connections faulty before after h = record {
    visits = h.visits;
    states = states_of to_come taken h.visits before after h.runs;
    run = are_between to_come taken h.visits before after h.runs;
    many = sym (as_many h.visits) ∙ h.told.0;
    faults = sym (h.told.1 ∙ faults_counted (results_of h.visits) ∙ faulty_results h.visits);
    asked = h.asked ∙ ap (λ (calls : List (Call C)). logged calls old) (in_turn h.visits);
  }

  listened : (to_come taken : C → Option (List ℕ)) (old new : Option (List (Call C))) (listening : Listening) (before after : AgentState) → HasListened to_come taken old new listening before after (Ok tt)
      → AreServed to_come taken (logged (bound this_host listening.port ∷ []) old) new before after listening.connections 0
  listened to_come taken old new listening before after (inl (Ok faulty, asked, ended)) = elim (cases_Bool (faulty == 0)) [
    | inl none ↦ subst (AreServed to_come taken (logged (bound this_host listening.port ∷ []) old) new before after listening.connections) (eqb-true faulty 0 none) (served to_come taken (logged (bound this_host listening.port ∷ []) old) new listening.connections faulty before after asked)
    | inr some ↦ let bad = rw some at ended in cc
  ]
  listened to_come taken old new listening before after (inl (Err fault, asked, ended)) = cc
  listened to_come taken old new listening before after (inr (asked, same, bad)) = cc

  short : (to_come taken : C → Option (List ℕ)) (old new : Option (List (Call C))) (listening : Listening) (before after : AgentState) (fault : DeviceFault) → HasListened to_come taken old new listening before after (Err fault)
      → FellShort to_come taken old new listening before after
  short to_come taken old new listening before after fault (inl (Ok faulty, asked, ended)) =
      inr (inr (faulty, some_faulty faulty fault ended, served to_come taken (logged (bound this_host listening.port ∷ []) old) new listening.connections faulty before after asked))
  short to_come taken old new listening before after fault (inl (Err reason, asked, ended)) = inr (inl (reason, asked))
  short to_come taken old new listening before after fault (inr (asked, same, bad)) = inl (asked, same)

  -- a list is not a shorter list, and a bind that worked is none that failed
  not_unbound : (calls earlier : List (Call C)) (address : List ℕ) (port : ℕ) → unbound address port ∷ earlier ≡ calls ++ bound address port ∷ earlier → ⊥
  not_unbound [] earlier address port e = cc
  not_unbound (call ∷ calls) earlier address port e =
      let lengths : suc (length earlier) ≡ suc (length calls + suc (length earlier)) =
      ap (λ (all : List (Call C)). length all) e ∙ ap (λ (n : ℕ). suc n) (length-append calls (bound address port ∷ earlier)) in
      grind (arith)

  failed : (to_come taken : C → Option (List ℕ)) (before after : AgentState) (earlier : List (Call C)) (listening : Listening) (result : Result (Unit {0}) DeviceFault)
      → HasListened to_come taken (Some earlier) (Some (unbound this_host listening.port ∷ earlier)) listening before after result → (after ≡ before) × (result ≡ Err Failed)
  failed to_come taken before after earlier listening result (inl (served, asked, ended)) =
      absurd (not_unbound (calls_with asked.visits served) earlier this_host listening.port (ap (λ (calls : Option (List (Call C))). unwrap_or calls []) asked.asked))
  failed to_come taken before after earlier listening result (inr (asked, same, bad)) = (same, bad)

pub serves_all : {C : Type 0} → (to_come taken : C → Option (List ℕ)) (old new : Option (List (Call C))) (before after : AgentState) → ServesAll to_come taken old new before after
serves_all to_come taken old new before after = record {
  counted = λ connections faulty h. served to_come taken old new connections faulty before after h;
  listened = λ listening h. listened to_come taken old new listening before after h;
  short = λ listening fault h. short to_come taken old new listening before after fault h;
  failed = λ earlier listening result h. failed to_come taken before after earlier listening result h;
}
