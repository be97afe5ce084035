-- If serving ends without a fault, all requested connections were served, at 127.0.0.1. If binding
-- failed, the agent is as before.
use Rattle.std.specs.Prelude.{◌≡◌, ◌<◌, ◌⊎◌, ℕ, ◌+◌, List, [], ◌∷◌, length, Option, Some, Result, Ok, Err, is_err, slice_get}
use Rattle.std.specs.List.{filter, flat_map}
use Rattle.lldp_engine.specs.AgentState.{AgentState}
use Rattle.lldp_program.specs.declared.arguments.Listening.{Listening}
use Rattle.lldp_program.specs.declared.device.DeviceFault.{DeviceFault}
use Rattle.lldp_program.specs.declared.device.DeviceFault.TheVariants.{Failed}
use Rattle.lldp_program.specs.Devices.Acceptors.{Call, accepted, bound, ran, unbound, Visit, logged}
use Rattle.lldp_program.specs.Serving.{HasAsked, HasListened}
use Rattle.lldp_program.specs.Trace.Runs.{HasRun}
use Rattle.lldp_program.specs.declared.serve.ServeFault.{ServeFault}

-- the calls if each connection was accepted and its trace was then run, newest call first
abbrev pub asked_in_turn : {C : Type 0} → List (Visit C) → List (Call C)
asked_in_turn visits = flat_map (λ visit. ran visit ∷ accepted visit.connection ∷ []) visits

-- how many runs ended with a fault
abbrev pub faulty_among : {C : Type 0} → List (Visit C) → ℕ
faulty_among visits = length (filter (λ visit. is_err visit.result) visits)

-- The agent had these states, the newest first: `before` at last, `after` at first, and between two
-- of them the run over one connection.
pub record AreBetween {C : Type 0} (to_come taken : C → Option (List ℕ)) (visits : List (Visit C))
    (before after : AgentState) (states : List AgentState) : Type 0 where
  pub newest : slice_get states 0 ≡ Some after
  pub oldest : slice_get states (length visits) ≡ Some before
  pub runs : (i : ℕ) (visit : Visit C) (from to : AgentState) → slice_get visits i ≡ Some visit →
      slice_get states (1 + i) ≡ Some from → slice_get states i ≡ Some to →
      HasRun (to_come visit.connection) visit.left (taken visit.connection) visit.new from to visit.result

-- This many connections were accepted, and the trace of each was run once, over the agent as the
-- run before left it. This many of the runs ended with a fault. No other call was made.
pub record AreServed {C : Type 0} (to_come taken : C → Option (List ℕ)) (old new : Option (List (Call C)))
    (before after : AgentState) (connections faulty : ℕ) : Type 0 where
  pub visits : List (Visit C)
  pub states : List AgentState
  pub run : AreBetween to_come taken visits before after states
  pub many : length visits ≡ connections
  pub faults : faulty_among visits ≡ faulty
  pub asked : new ≡ logged (asked_in_turn visits) old

-- Binding failed, and no other call was made; or accepting failed; or all connections were served,
-- and a run had a fault.
abbrev pub FellShort : {C : Type 0} → (C → Option (List ℕ)) → (C → Option (List ℕ)) → Option (List (Call C)) →
    Option (List (Call C)) → Listening → AgentState → AgentState → Type 0
FellShort to_come taken old new listening before after =
    ((new ≡ logged (unbound (127 ∷ 0 ∷ 0 ∷ 1 ∷ []) listening.port ∷ []) old) × (after ≡ before))
    ⊎ (((fault : ServeFault)
    × HasAsked to_come taken (logged (bound (127 ∷ 0 ∷ 0 ∷ 1 ∷ []) listening.port ∷ []) old) new listening.connections before after (Err fault))
    ⊎ ((faulty : ℕ) × (0 < faulty)
    × AreServed to_come taken (logged (bound (127 ∷ 0 ∷ 0 ∷ 1 ∷ []) listening.port ∷ []) old) new before after listening.connections faulty))

-- If serving returned Ok, all requested connections were served. If listening returned Ok, the port
-- of 127.0.0.1 was bound first, all connections were served there, and no run had a fault. It
-- returns a fault only if one of these fell short. If the only call is a failed bind, the agent is
-- as before, and the answer is a fault.
pub record ServesAll {C : Type 0} (to_come taken : C → Option (List ℕ)) (old new : Option (List (Call C)))
    (before after : AgentState) : Type 0 where
  pub counted : (connections faulty : ℕ) → HasAsked to_come taken old new connections before after (Ok faulty) →
      AreServed to_come taken old new before after connections faulty
  pub listened : (listening : Listening) → HasListened to_come taken old new listening before after (Ok tt) →
      AreServed to_come taken (logged (bound (127 ∷ 0 ∷ 0 ∷ 1 ∷ []) listening.port ∷ []) old) new before after listening.connections 0
  pub short : (listening : Listening) (fault : DeviceFault) → HasListened to_come taken old new listening before after (Err fault) →
      FellShort to_come taken old new listening before after
  pub failed : (earlier : List (Call C)) (listening : Listening) (result : Result (Unit {0}) DeviceFault) →
      HasListened to_come taken (Some earlier) (Some (unbound (127 ∷ 0 ∷ 0 ∷ 1 ∷ []) listening.port ∷ earlier)) listening before after result →
      (after ≡ before) × (result ≡ Err Failed)
