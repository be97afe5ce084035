-- What serving connections does.
use Rattle.std.specs.Prelude.{◌≡◌, ◌<◌, ◌⊎◌, ℕ, ◌+◌, ◌==◌, if◌then◌else◌, List, [], ◌∷◌, length, Option, Result, Ok, Err}
use Rattle.lldp_program.specs.Devices.Acceptors.{Call, accepted, bound, refused, ran, unbound, Visit, logged}
use Rattle.lldp_engine.specs.AgentState.{AgentState}
use Rattle.lldp_program.specs.Trace.Runs.{HasRun}
use Rattle.lldp_program.specs.declared.arguments.Listening.{Listening}
use Rattle.lldp_program.specs.declared.device.DeviceFault.{DeviceFault}
use Rattle.lldp_program.specs.declared.device.DeviceFault.TheVariants.{Failed}
use Rattle.lldp_program.specs.declared.trace.RunFault.{RunFault}
use Rattle.lldp_program.specs.declared.serve.ServeFault.{ServeFault}

-- 1 for a run that ended with a fault, else 0
abbrev pub faults_in : Result (Unit {0}) RunFault → ℕ
faults_in (Ok done) = 0
faults_in (Err fault) = 1

-- how many of these runs ended with a fault
abbrev pub faults_of : List (Result (Unit {0}) RunFault) → ℕ
faults_of [] = 0
faults_of (result ∷ earlier) = faults_of earlier + faults_in result

-- Ok: all runs were made, and this many of them ended with a fault. Err: not all were made.
abbrev pub Tells : ℕ → List (Result (Unit {0}) RunFault) → Result ℕ ServeFault → Type 0
Tells connections results (Ok faulty) = (length results ≡ connections) × (faulty ≡ faults_of results)
Tells connections results (Err fault) = length results < connections

abbrev pub results_of : {C : Type 0} → List (Visit C) → List (Result (Unit {0}) RunFault)
results_of [] = []
results_of (visit ∷ earlier) = visit.result ∷ results_of earlier

-- The calls, newest first: each connection was accepted, and then its trace was run.
abbrev pub calls_of : {C : Type 0} → List (Visit C) → List (Call C)
calls_of [] = []
calls_of (visit ∷ earlier) = ran visit ∷ accepted visit.connection ∷ calls_of earlier

-- the same calls, and after them a failed accept if the answer is Err
abbrev pub calls_with : {C : Type 0} → List (Visit C) → Result ℕ ServeFault → List (Call C)
calls_with visits (Ok faulty) = calls_of visits
calls_with visits (Err fault) = refused ∷ calls_of visits

-- a trace was run over each connection, and the agent kept its state from one to the next
abbrev pub AreRun : {C : Type 0} → (C → Option (List ℕ)) → (C → Option (List ℕ)) → List (Visit C) → AgentState → AgentState →
    Type 0
AreRun to_come taken [] before after = after ≡ before
AreRun to_come taken (visit ∷ earlier) before after =
    (between : AgentState) × AreRun to_come taken earlier before between
    × HasRun (to_come visit.connection) visit.left (taken visit.connection) visit.new between after visit.result

-- The calls, if the acceptor reports them. Either this many connections were accepted, the trace of
-- each was run once, and the answer counts the runs with a fault; or accepting failed earlier.
pub record HasAsked {C : Type 0} (to_come taken : C → Option (List ℕ)) (old new : Option (List (Call C)))
    (connections : ℕ) (before after : AgentState) (result : Result ℕ ServeFault) : Type 0 where
  pub visits : List (Visit C)
  pub runs : AreRun to_come taken visits before after
  pub asked : new ≡ logged (calls_with visits result) old
  pub told : Tells connections (results_of visits) result

-- the octets of 127.0.0.1
abbrev pub this_host : List ℕ
this_host = 127 ∷ 0 ∷ 0 ∷ 1 ∷ []

-- Ok if serving returned Ok and no run ended with a fault
abbrev pub without_fault : Result ℕ ServeFault → Result (Unit {0}) DeviceFault
without_fault (Ok faulty) = if faulty == 0 then Ok tt else Err Failed
without_fault (Err fault) = Err Failed

-- Either the port of 127.0.0.1 was bound, and then serving did what `HasAsked` states; or binding
-- failed, no other call was made, and the answer is a fault.
abbrev pub HasListened : {C : Type 0} → (C → Option (List ℕ)) → (C → Option (List ℕ)) → Option (List (Call C)) → Option (List (Call C)) →
    Listening → AgentState → AgentState → Result (Unit {0}) DeviceFault → Type 0
HasListened to_come taken old new listening before after result =
    ((served : Result ℕ ServeFault)
    × HasAsked to_come taken (logged (bound this_host listening.port ∷ []) old) new listening.connections before after served
    × (result ≡ without_fault served))
    ⊎ ((new ≡ logged (unbound this_host listening.port ∷ []) old) × (after ≡ before) × (result ≡ Err Failed))
