-- Ports that are disabled one after another.
use Rattle.std.proofs.Common.{◌≡◌, ℕ, zero, suc, ◌+◌, ◌<◌, ◌≤◌, Bool, true, false, inl, inr, List, [], ◌∷◌, ◌++◌, length, map, take, drop, set, get_or, Some, refl, sym, ap, subst, ◌∙◌, append_assoc, append-nil, arith}
use Rattle.std.specs.Prelude.{◌&&◌, ◌==◌, not, if◌then◌else◌, slice_get}
use Rattle.std.specs.List.{AllByRecursion}
use Rattle.std.proofs.lemmas.Bool.{cases_Bool}
use Rattle.std.proofs.lemmas.List.{take_all}
use Rattle.std.proofs.lemmas.Option.{get_or_from_slice_get}
use Rattle.std.proofs.Math.ListN.{drop_of_length-le}
use Rattle.lldp_transmit.specs.declared.event.Mark.{Mark}
use Rattle.lldp_transmit.specs.declared.event.Mark.TheVariants.{Quiet, Shutdown}
use Rattle.lldp_transmit.specs.Code.Machine.{Machine, stepped}
use Rattle.lldp_engine.specs.declared.port.status.Status.TheVariants.{Disabled}
use Rattle.lldp_engine.specs.AgentState.{AgentState, PortState}
use Rattle.lldp_engine.specs.Past.{Sending, sending}
use Rattle.lldp_engine.specs.Status.{transmits}
use Rattle.lldp_engine.specs.Port.Event.{status}
use Rattle.lldp_engine.specs.Port.Effects.{cause_of_right}
use Rattle.lldp_engine.specs.Code.PortStep.{port_step}
use Rattle.lldp_engine.specs.Code.Step.{agent_after, agent_marks}
use Rattle.lldp_engine.proofs.AllPorts.EachPort.{one_port_after, one_port_marks}
use Rattle.lldpa_c.specs.Leaving.{disables, left, sent_leaving, shutdown_if, shutdowns}

there_is : (ports : List PortState) (n : ℕ) → n < length ports → (p : PortState) × (slice_get ports n ≡ Some p)
there_is [] n lt = absurd (omega arith)
there_is (p ∷ ports) zero lt = (p, refl)
there_is (p ∷ ports) (suc n) lt = there_is ports n (omega arith)

-- ---- one port

-- whether a port sends a shutdown frame when it is disabled
abbrev pub stops : PortState → Bool
stops p = transmits p.status && p.machine.active

machine_mark : (b : Bool) (n : ℕ) (t : Machine) → (stepped t (cause_of_right b false) n).1 ≡ (if b && t.active then Shutdown else Quiet)
machine_mark true n t = elim (cases_Bool t.active) [ inl e ↦ rw e refl | inr e ↦ rw e refl ]
machine_mark false n t = refl

mark_sent : (b : Bool) (i : ℕ) → sending i (if b then Shutdown else Quiet) [] ≡ shutdown_if b i
mark_sent true i = refl
mark_sent false i = refl

pub marks_disabled : (agent : AgentState) (i : ℕ) (p : PortState) → i < length agent.ports → p ≡ get_or agent.ports i p → agent_marks (disables i) agent ≡ shutdown_if (stops p) i
marks_disabled agent i p lt here =
    let n = agent.configuration.interval in
    sym (one_port_marks (status Disabled) n i agent.ports p lt here) ∙ ap (λ (m : Mark). sending i m []) (machine_mark (transmits p.status) n p.machine) ∙ mark_sent (stops p) i

is_sent : (items : List Sending) (b is_empty : Bool) (i : ℕ) → items ≡ shutdown_if b i → is_empty ≡ (length items == 0) → shutdown_if (not is_empty) i ≡ items
is_sent items true is_empty i is e = rw (e, is) refl
is_sent items false is_empty i is e = rw (e, is) refl

-- disabling a port sends nothing, or one shutdown frame
pub told_sent : (agent : AgentState) (i : ℕ) (items : List Sending) (is_empty : Bool) → i < length agent.ports → items ≡ agent_marks (disables i) agent → is_empty ≡ (length items == 0)
    → shutdown_if (not is_empty) i ≡ agent_marks (disables i) agent
told_sent agent i items is_empty lt is e =
    let p = there_is agent.ports i lt in
    is_sent items (stops p.0) is_empty i (is ∙ marks_disabled agent i p.0 lt (sym (get_or_from_slice_get agent.ports i p.0 p.0 p.1))) e ∙ is

-- ---- the ports, one after another

module _ (agent : AgentState) where
  abbrev disabled : PortState → PortState
  disabled p = port_step (status Disabled) agent.configuration.interval p

  -- these ports, after the first n of them were disabled
  abbrev so_far : ℕ → List PortState → List PortState
  so_far n ports = map disabled (take n ports) ++ drop n ports

  set_next : (n : ℕ) (ports : List PortState) (p : PortState) → slice_get ports n ≡ Some p → set (so_far n ports) n (disabled p) ≡ so_far (suc n) ports
  set_next n [] p h = absurd cc
  set_next zero (x ∷ ports) p h = let same : x ≡ p = cc in ap (λ (q : PortState). disabled q ∷ ports) (sym same)
  set_next (suc n) (x ∷ ports) p h = ap (λ (ps : List PortState). disabled x ∷ ps) (set_next n ports p h)

  at_next : (n : ℕ) (ports : List PortState) (p : PortState) → slice_get ports n ≡ Some p → p ≡ get_or (so_far n ports) n p
  at_next n [] p h = absurd cc
  at_next zero (x ∷ ports) p h = cc
  at_next (suc n) (x ∷ ports) p h = at_next n ports p h

  as_many : (n : ℕ) (ports : List PortState) → length (so_far n ports) ≡ length ports
  as_many zero ports = refl
  as_many (suc n) [] = refl
  as_many (suc n) (x ∷ ports) = ap suc (as_many n ports)

  pub left_is : (n : ℕ) → n ≤ length agent.ports → left n agent ≡ record agent { ports = so_far n agent.ports }
  left_is zero le = refl
  left_is (suc n) le =
      let p = there_is agent.ports n (omega (arith, le)) in
      let lt : n < length (so_far n agent.ports) = omega (arith, le, as_many n agent.ports) in
      ap (agent_after (disables n)) (left_is n (omega (arith, le)))
      ∙ ap (λ (ps : List PortState). record agent { ports = ps }) (sym (one_port_after (status Disabled) agent.configuration.interval n (so_far n agent.ports) p.0 lt (at_next n agent.ports p.0 p.1)) ∙ set_next n agent.ports p.0 p.1)

  pub ports_left : (n : ℕ) → n ≤ length agent.ports → length (left n agent).ports ≡ length agent.ports
  ports_left n le = ap (λ (a : AgentState). length a.ports) (left_is n le) ∙ as_many n agent.ports

  shutdowns_next : (s n : ℕ) (ports : List PortState) (p : PortState) → slice_get ports n ≡ Some p → shutdowns s (take n ports) ++ shutdown_if (stops p) (s + n) ≡ shutdowns s (take (suc n) ports)
  shutdowns_next s n [] p h = absurd cc
  shutdowns_next s zero (x ∷ ports) p h =
      let same : x ≡ p = cc in
      let place : s + 0 ≡ s = omega arith in
      rw (same, place) (sym (append-nil _))
  shutdowns_next s (suc n) (x ∷ ports) p h =
      let place : s + suc n ≡ s + 1 + n = omega arith in
      rw place (append_assoc (shutdown_if (stops x) s) _ _ ∙ ap (λ (ms : List Sending). shutdown_if (stops x) s ++ ms) (shutdowns_next (s + 1) n ports p h))

  pub sent_is : (n : ℕ) → n ≤ length agent.ports → sent_leaving n agent ≡ shutdowns 0 (take n agent.ports)
  sent_is zero le = refl
  sent_is (suc n) le =
      let p = there_is agent.ports n (omega (arith, le)) in
      let lt : n < length (so_far n agent.ports) = omega (arith, le, as_many n agent.ports) in
      let place : n ≡ 0 + n = omega arith in
      let here = ap (agent_marks (disables n)) (left_is n (omega (arith, le))) ∙ marks_disabled (record agent { ports = so_far n agent.ports }) n p.0 lt (at_next n agent.ports p.0 p.1) in
      ap (λ (ms : List Sending). sent_leaving n agent ++ ms) here ∙ ap (λ (ms : List Sending). ms ++ shutdown_if (stops p.0) n) (sent_is n (omega (arith, le)))
      ∙ ap (λ (k : ℕ). shutdowns 0 (take n agent.ports) ++ shutdown_if (stops p.0) k) place ∙ shutdowns_next 0 n agent.ports p.0 p.1

  all_disabled : (ports : List PortState) → AllByRecursion (λ (p : PortState). p.status ≡ Disabled) (map disabled ports)
  all_disabled [] = tt
  all_disabled (p ∷ ports) = (refl, all_disabled ports)

  pub each_disabled : (after : AgentState) → after ≡ left (length agent.ports) agent → AllByRecursion (λ (p : PortState). p.status ≡ Disabled) after.ports
  each_disabled after is =
      let all = length agent.ports in
      let none : so_far all agent.ports ≡ map disabled agent.ports = rw (take_all all agent.ports (omega arith), drop_of_length-le agent.ports {i = all} (omega arith)) (append-nil _) in
      subst (λ (a : AgentState). AllByRecursion (λ (p : PortState). p.status ≡ Disabled) a.ports) (sym (is ∙ left_is all (omega arith)))
      (subst (λ (ps : List PortState). AllByRecursion (λ (p : PortState). p.status ≡ Disabled) ps) (sym none) (all_disabled agent.ports))

  pub all_sent : sent_leaving (length agent.ports) agent ≡ shutdowns 0 agent.ports
  all_sent = sent_is (length agent.ports) (omega arith) ∙ ap (shutdowns 0) (take_all (length agent.ports) agent.ports (omega arith))
