-- A tick does not change an agent whose ports are still, so no number of ticks does.
use Rattle.std.proofs.Common.{◌≡◌, ℕ, zero, suc, ◌+◌, ◌-◌, Bool, true, false, List, [], ◌∷◌, take, Some, refl, sym, ap, subst, ◌∙◌, arith, ◌≤◌}
use Rattle.std.specs.Prelude.{slice_get}
use Rattle.std.specs.List.{AllByRecursion}
use Rattle.std.proofs.lemmas.Bool.Decides.{nat_tests}
use Rattle.lldp_transmit.specs.declared.event.Mark.{Mark}
use Rattle.lldp_transmit.specs.declared.event.Mark.TheVariants.{Quiet}
use Rattle.lldp_transmit.specs.Code.Machine.{Machine}
use Rattle.lldp_engine.specs.AgentState.{AgentState, PortState}
use Rattle.lldp_engine.specs.Event.{tick}
use Rattle.lldp_engine.specs.Past.{with_event, sending}
use Rattle.lldp_engine.specs.Standing.{Stands}
use Rattle.lldp_engine.specs.Port.Event.{tick as port_tick}
use Rattle.lldp_engine.specs.Code.Step.{ports_step, marks_step, agent_after, agent_marks}
use Rattle.lldp_engine.proofs.Headline.{have_sent_exactly}
use Rattle.lldp_engine.proofs.Headline.Answered.{promised_step}
use Rattle.lldp_engine.proofs.Standing.Carrying.{carries, marks_carry}
use Rattle.lldpa_c.specs.Agent.{Steps}
use Rattle.lldpa_c.specs.Ticks.{ticked, Takes}
use Rattle.lldpa_c.specs.Still.{may_go, IsStillMachine, IsStill}
use Rattle.lldpa_c.proofs.Ticking.{TakesSo, one_more}
use Rattle.lldp_engine.specs.Code.Whose.{each_port}

-- ---- a machine

module _ (m : Machine) (credit : m.credit ≡ m.credit_max) (wait : m.wait ≡ 0) (timer : m.timer ≡ 0) where
  abbrev so : (waiting active allowed up : Bool) → Machine
  so waiting active allowed up = record m { waiting = waiting; active = active; allowed = allowed; up = up }

  still_so : (waiting active allowed up : Bool) → may_go (so waiting active allowed up) ≡ false → IsStillMachine (so waiting active allowed up)
  still_so true true allowed up h = absurd cc
  still_so waiting false true true h = absurd cc
  still_so waiting active allowed up h = λ n. grind (arith, nat_tests, credit, wait, timer)

  pub still_machine : may_go m ≡ false → IsStillMachine m
  still_machine h = still_so m.waiting m.active m.allowed m.up h

-- ---- the ports of an agent

pub still_more : (ports : List PortState) (i : ℕ) → AllByRecursion IsStill (take i ports) → ((p : PortState) → slice_get ports i ≡ Some p → IsStill p) → AllByRecursion IsStill (take (suc i) ports)
still_more [] i h one = tt
still_more (p ∷ ports) zero h one = (one p refl, tt)
still_more (p ∷ ports) (suc i) h one = (h.0, still_more ports i h.1 one)

quiet_first : (i : ℕ) (mark : Mark) (others : List (ℕ × Mark)) → mark ≡ Quiet → others ≡ [] → sending i mark others ≡ []
quiet_first i mark others e f = rw (e, f) refl

ports_still : (n i : ℕ) (ports : List PortState) → AllByRecursion IsStill ports → (ports_step (each_port port_tick) n i ports ≡ ports) × (marks_step (each_port port_tick) n i ports ≡ [])
ports_still n i [] h = (refl, refl)
ports_still n i (p ∷ ports) h =
    let others = ports_still n (i + 1) ports h.1 in
    let one = h.0 n in
    (cc (one.0, others.0), quiet_first i _ _ one.1 others.1)

-- ---- an agent

steps_still : (agent : AgentState) → agent_after tick agent ≡ agent → agent_marks tick agent ≡ [] → Steps agent tick agent []
steps_still agent e m = record {
  next = sym e;
  marks = sym m;
  ports = tt;
  stands = λ past h. subst (Stands (with_event past tick)) e (carries past tick agent h tt tt);
  marks_past = λ past h. sym m ∙ marks_carry past tick agent h tt tt;
  headline = λ past h. promised_step past tick [] agent (sym m ∙ marks_carry past tick agent h tt tt) (subst (Stands (with_event past tick)) e (carries past tick agent h tt tt));
  sending = λ past h. have_sent_exactly (with_event past tick) agent (subst (Stands (with_event past tick)) e (carries past tick agent h tt tt));
}

takes_more : (k taken : ℕ) (before agent : AgentState) → Steps agent tick agent [] → TakesSo taken before agent [] 0 → TakesSo (taken + k) before agent [] 0
takes_more zero taken before agent s t = let same : taken ≡ taken + 0 = omega arith in subst (λ (n : ℕ). TakesSo n before agent [] 0) same t
takes_more (suc k) taken before agent s t =
    let same : taken + k + 1 ≡ taken + suc k = omega arith in
    subst (λ (n : ℕ). TakesSo n before agent [] 0) same (one_more (taken + k) 0 0 before agent agent [] [] (takes_more k taken before agent s t) refl refl s (omega arith))

-- a tick leaves an agent as it is if its ports are still
tick_same : (agent : AgentState) → AllByRecursion IsStill agent.ports → agent_after tick agent ≡ agent
tick_same agent h = ap (λ (ports : List PortState). record agent { ports = ports }) (ports_still agent.configuration.interval 0 agent.ports h).0

pub still_ticked : (agent : AgentState) → AllByRecursion IsStill agent.ports → (n : ℕ) → ticked n agent ≡ agent
still_ticked agent h zero = refl
still_ticked agent h (suc n) = ap (agent_after tick) (still_ticked agent h n) ∙ tick_same agent h

-- if the ports are still, all the other ticks that are asked for pass at once
pub takes_rest : (count taken : ℕ) (before agent : AgentState) (sent : List (ℕ × Mark)) (gone : ℕ) → taken ≤ count → sent ≡ [] → gone ≡ 0 → AllByRecursion IsStill agent.ports → TakesSo taken before agent sent gone
    → Takes count count before agent sent gone
takes_rest count taken before agent sent gone l e g h t =
    let still = ports_still agent.configuration.interval 0 agent.ports h in
    let same : taken + (count - taken) ≡ count = omega (arith, l) in
    let all = takes_more (count - taken) taken before agent (steps_still agent (tick_same agent h) still.1) (rw (e, g) at t) in
    let so = rw same at all in
    rw (e, g) (record { few = omega arith; is = so.is; last = so.last; quiet = so.quiet; why = λ less. absurd (omega arith); stands = so.stands; promised = so.promised })
