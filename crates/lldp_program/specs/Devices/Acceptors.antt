-- The calls of an acceptor.
use Rattle.std.specs.Prelude.{◌≡◌, ℕ, List, [], ◌∷◌, ◌++◌, Option, Some, None, Result, Ok, Err}
use Rattle.lldp_engine.specs.AgentState.{AgentState}
use Rattle.lldp_program.specs.Trace.Runs.{HasRun}
use Rattle.lldp_program.specs.declared.trace.RunFault.{RunFault}
use Rattle.lldp_program.specs.declared.device.DeviceFault.{DeviceFault}

-- a run over a connection: the octets left to read, the octets written, and the result
pub record Visit (C : Type 0) : Type 0 where
  pub connection : C
  pub left : Option (List ℕ)
  pub new : Option (List ℕ)
  pub result : Result (Unit {0}) RunFault

-- a call of an acceptor: accepting worked or failed; a trace was run; binding worked or failed
pub data Call (C : Type 0) : Type 0 where
  accepted : (connection : C) → Call C
  refused : Call C
  ran : (visit : Visit C) → Call C
  bound : (address : List ℕ) (port : ℕ) → Call C
  unbound : (address : List ℕ) (port : ℕ) → Call C

-- the calls that an acceptor reports after these calls, newest first; None if it reports none
abbrev pub logged : {C : Type 0} → List (Call C) → Option (List (Call C)) → Option (List (Call C))
logged calls None = None
logged calls (Some earlier) = Some (calls ++ earlier)

-- the call that an acceptor reports if accepting returned this answer
abbrev pub accepting : {C : Type 0} → Result C DeviceFault → Call C
accepting (Ok connection) = accepted connection
accepting (Err fault) = refused

-- the call that an acceptor reports if binding returned this answer
abbrev pub binding : {C : Type 0} → List ℕ → ℕ → Result (Unit {0}) DeviceFault → Call C
binding address port (Ok done) = bound address port
binding address port (Err fault) = unbound address port

-- a trace was run over a connection, and the acceptor reports that call
pub record RanOver {C : Type 0} (to_come taken : C → Option (List ℕ)) (connection : C) (asked asked_after : Option (List (Call C)))
    (before after : AgentState) (result : Result (Unit {0}) RunFault) : Type 0 where
  pub left : Option (List ℕ)
  pub new : Option (List ℕ)
  pub run : HasRun (to_come connection) left (taken connection) new before after result
  pub recorded : asked_after ≡ logged (ran (record { connection = connection; left = left; new = new; result = result }) ∷ []) asked
