-- The effect of ticks on an agent, and on the number of its neighbors.
use Rattle.std.proofs.Common.{◌≡◌, ℕ, zero, suc, ◌+◌, ◌<◌, ◌≤◌, inl, inr, List, [], ◌∷◌, length, drop, Some, refl, sym, ap, subst, ◌∙◌, arith}
use Rattle.std.specs.Prelude.{Option, None, slice_get}
use Rattle.std.specs.List.{filter_map, cons_option}
use Rattle.std.specs.Option.{option_map}
use Rattle.std.proofs.lemmas.Bool.{cases_lt}
use Rattle.lldp_table.specs.Contents.{Contents}
use Rattle.lldp_table.specs.Code.Steps.{aged}
use Rattle.lldp_transmit.specs.declared.event.Mark.{Mark}
use Rattle.lldp_engine.specs.AgentState.{AgentState, PortState}
use Rattle.lldp_engine.specs.Event.{tick}
use Rattle.lldp_engine.specs.Past.{Past}
use Rattle.lldp_engine.specs.Standing.{Stands}
use Rattle.lldp_engine.specs.Port.Event.{tick as port_tick}
use Rattle.lldp_engine.specs.Code.Step.{ports_step, agent_after, agent_marks}
use Rattle.lldpa_c.specs.Agent.{Steps}
use Rattle.lldpa_c.specs.Ticks.{held_by, neighbors_held, AgesOut, ticked, with_ticks, IsQuiet, LastDid, LastPromised}
use Rattle.lldp_engine.specs.Code.Whose.{each_port}

-- ---- how many neighbors the ports hold

pub held_more : (ports : List PortState) (i : ℕ) (table : Contents) → option_map (λ (p : PortState). p.table) (slice_get ports i) ≡ Some table
    → held_by (drop i ports) ≡ length table.neighbors + held_by (drop (suc i) ports)
held_more [] i table h = absurd cc
held_more (p ∷ ports) zero table h =
    let same : p.table ≡ table = cc in
    ap (λ (t : Contents). length t.neighbors + held_by ports) same
held_more (p ∷ ports) (suc i) table h = held_more ports i table h

pub no_longer : {X : Type 0} (o : Option X) (xs : List X) → length (cons_option o xs) ≤ suc (length xs)
no_longer None xs = omega arith
no_longer (Some x) xs = omega arith

pub fewer : {X Y : Type 0} (f : X → Option Y) (xs : List X) → length (filter_map f xs) ≤ length xs
fewer f [] = omega arith
fewer f (x ∷ xs) = omega (arith, no_longer (f x) (filter_map f xs), fewer f xs)

pub held_step : (n i : ℕ) (ports : List PortState) → held_by (ports_step (each_port port_tick) n i ports) ≤ held_by ports
held_step n i [] = omega arith
held_step n i (p ∷ ports) = omega (arith, fewer aged p.table.neighbors, held_step n (i + 1) ports)

-- a tick adds no neighbor
pub no_more : (agent : AgentState) → neighbors_held (agent_after tick agent) ≤ neighbors_held agent
no_more agent = held_step agent.configuration.interval 0 agent.ports

-- ---- several ticks

pub record TakesSo (taken : ℕ) (before after : AgentState) (sent : List (ℕ × Mark)) (gone : ℕ) : Type 0 where
  pub is : after ≡ ticked taken before
  pub last : LastDid taken before sent gone
  pub quiet : (k : ℕ) → k + 1 < taken → IsQuiet (ticked k before)
  pub stands : (past : Past) → Stands past before → Stands (with_ticks taken past) after
  pub promised : (past : Past) → Stands past before → LastPromised taken past sent after

pub none_taken : (agent : AgentState) → TakesSo 0 agent agent [] 0
none_taken agent = record { is = refl; last = (refl, refl); quiet = λ k h. absurd (omega arith); stands = λ past s. s; promised = λ past s. tt }

quiet_more : (taken : ℕ) (before after : AgentState) (sent : List (ℕ × Mark)) (gone : ℕ) → TakesSo taken before after sent gone → sent ≡ [] → gone ≡ 0
    → (k : ℕ) → k + 1 < suc taken → IsQuiet (ticked k before)
quiet_more zero before after sent gone t e z k h = absurd (omega arith)
quiet_more (suc n) before after sent gone t e z k h = elim (cases_lt (k + 1) (suc n)) [
  | inl less ↦ t.quiet k less
  | inr more ↦
      let same : k ≡ n = omega arith in
      subst (λ (m : ℕ). IsQuiet (ticked m before)) (sym same) record { sends = sym t.last.0 ∙ e; ages = omega (arith, t.last.1, z) }
]

one_suc : (taken gone gone' : ℕ) (before after after' : AgentState) (sent sent' : List (ℕ × Mark)) → TakesSo taken before after sent gone → sent ≡ [] → gone ≡ 0
    → Steps after tick after' sent' → AgesOut after after' gone' → TakesSo (suc taken) before after' sent' gone'
one_suc taken gone gone' before after after' sent sent' t e z s a = record {
  is = s.next ∙ ap (agent_after tick) t.is;
  last = (s.marks ∙ ap (agent_marks tick) t.is, omega (arith, a, ap neighbors_held t.is, ap neighbors_held (s.next ∙ ap (agent_after tick) t.is)));
  quiet = quiet_more taken before after sent gone t e z;
  stands = λ past st. s.stands (with_ticks taken past) (t.stands past st);
  promised = λ past st. (s.marks_past (with_ticks taken past) (t.stands past st), s.headline (with_ticks taken past) (t.stands past st), s.sending (with_ticks taken past) (t.stands past st));
}

pub one_more : (taken gone gone' : ℕ) (before after after' : AgentState) (sent sent' : List (ℕ × Mark)) → TakesSo taken before after sent gone → sent ≡ [] → gone ≡ 0
    → Steps after tick after' sent' → AgesOut after after' gone' → TakesSo (taken + 1) before after' sent' gone'
one_more taken gone gone' before after after' sent sent' t e z s a =
    let next : suc taken ≡ taken + 1 = omega arith in
    subst (λ (n : ℕ). TakesSo n before after' sent' gone') next (one_suc taken gone gone' before after after' sent sent' t e z s a)
