use Rattle.std.proofs.Common.{◌≡◌, ℕ, zero, suc, ◌+◌, ◌-◌, ◌<◌, ◌≤◌, inl, inr, List, [], ◌∷◌, length, map, min, refl, sym, ap, subst, ◌∙◌, arith}
use Rattle.std.specs.Prelude.{Option, Some, None, slice_get, sum_by}
use Rattle.std.specs.Option.{option_map}
use Rattle.std.proofs.lemmas.Bool.{cases_lt}
use Rattle.std.proofs.lemmas.List.Sums.{sum_by-cons}
use Rattle.std.proofs.lemmas.Option.{slice_get-map}
use Rattle.std.proofs.Math.Nat.{min-eq_left, min-eq_right}
use Rattle.lldp_table.specs.Events.{Neighbor}
use Rattle.lldp_transmit.specs.declared.event.Mark.{Mark}
use Rattle.lldp_engine.specs.AgentState.{AgentState, PortState}
use Rattle.lldp_engine.specs.ChassisLines.{chassis_lines}
use Rattle.lldp_engine.specs.ConfigurationLines.{configuration_lines, status_line}
use Rattle.lldp_engine.specs.Event.{tick}
use Rattle.lldp_engine.specs.Past.{Past}
use Rattle.lldp_engine.specs.Standing.{Stands}
use Rattle.lldp_engine.specs.Code.Step.{agent_after}
use Rattle.lldpa_c.specs.declared.due.TheConstants.{NEVER}
use Rattle.lldpa_c.specs.Due.{timeless, timeless_port, timeless_neighbors, IsDue}
use Rattle.lldpa_c.specs.Held.{neighbors_at, neighbors_on}
use Rattle.lldpa_c.specs.Ticks.{Takes, IsQuiet, LastDid, ticked, with_ticks, held_by, neighbors_held}
use Rattle.lldpa_c.specs.Laws.Passing.{SecondsLater, AreTaken, LookTheSame}
use Rattle.lldpa_c.proofs.Ticking.{no_more}
use Rattle.lldpa_c.proofs.Stillness.{still_machine, still_ticked}
use Rattle.lldpa_c.proofs.laws.seconds_pass_until_something_is_due.Goals as goal

-- ---- seconds

held_is : (ports : List PortState) → held_by ports ≡ sum_by (λ port. length port.table.neighbors) ports
held_is [] = refl
held_is (port ∷ ports) = ap (λ (n : ℕ). length port.table.neighbors + n) (held_is ports) ∙ sym (sum_by-cons (λ (p : PortState). length p.table.neighbors) port ports)

later : (n : ℕ) (past : Past) → SecondsLater n past (with_ticks n past)
later zero past = (refl, refl)
later (suc n) past = let before = later n past in (before.0, ap (λ events. tick ∷ events) before.1)

one_first : (n : ℕ) (agent : AgentState) → ticked (suc n) agent ≡ ticked n (agent_after tick agent)
one_first zero agent = refl
one_first (suc n) agent = ap (agent_after tick) (one_first n agent)

pub returns-clause-seconds : goal.returns-clause-seconds
returns-clause-seconds c = record {
  held = λ agent. held_is agent.ports;
  past = later;
  agents = λ n agent. let next : n + 1 ≡ suc n = omega arith in ap (λ (k : ℕ). ticked k agent) next ∙ one_first n agent;
  still = still_ticked;
  machines = still_machine;
  quiet = λ agent q. (q.sends, q.ages);
}

-- ---- ticks that are taken

fewer : (n : ℕ) (agent : AgentState) → neighbors_held (ticked n agent) ≤ neighbors_held agent
fewer zero agent = omega arith
fewer (suc n) agent = omega (arith, no_more (ticked n agent), fewer n agent)

few : (n : ℕ) (agent : AgentState) (sent : List (ℕ × Mark)) (gone : ℕ) → LastDid n agent sent gone → gone + neighbors_held (ticked n agent) ≤ neighbors_held agent
few zero agent sent gone last = omega (arith, last.1)
few (suc n) agent sent gone last = omega (arith, last.1, fewer n agent)

-- a quiet second is none at which ticks stop
nothing_at : (n : ℕ) (before : AgentState) (sent : List (ℕ × Mark)) (gone : ℕ) → LastDid (suc n) before sent gone → IsQuiet (ticked n before) → (sent ≡ []) × (gone ≡ 0)
nothing_at n before sent gone last quiet = (last.0 ∙ quiet.sends, omega (arith, last.1, quiet.ages))

module _ (asked taken : ℕ) (before after : AgentState) (sent : List (ℕ × Mark)) (gone : ℕ) (t : Takes asked taken before after sent gone) where
  all_taken : sent ≡ [] → gone ≡ 0 → taken ≡ asked
  all_taken nothing none = elim (cases_lt taken asked) [ inl lt ↦ absurd (t.why lt (nothing, none)) | inr le ↦ omega (arith, le, t.few) ]

  none_at_zero : taken ≡ 0 → (sent ≡ []) × (gone ≡ 0)
  none_at_zero e = subst (λ (n : ℕ). LastDid n before sent gone) e t.last

  some_taken : 0 < asked → 0 < taken
  some_taken lt = elim (cases_lt 0 taken) [
    | inl some ↦ some
    | inr none ↦
        let zero_is : taken ≡ 0 = omega (arith, none) in
        let nothing = none_at_zero zero_is in
        absurd (t.why (omega (arith, lt, zero_is)) nothing)
  ]

  -- if each of the seconds taken is quiet, all were taken and nothing happened
  quiet_taken : ((k : ℕ) → k < taken → IsQuiet (ticked k before)) → (sent ≡ []) × (gone ≡ 0)
  quiet_taken quiet = elim (cases_lt 0 taken) [
    | inl some ↦
        let last : suc (taken - 1) ≡ taken = omega (arith, some) in
        nothing_at (taken - 1) before sent gone (subst (λ (n : ℕ). LastDid n before sent gone) (sym last) t.last) (quiet (taken - 1) (omega (arith, some)))
    | inr none ↦ none_at_zero (omega (arith, none))
  ]

  due_taken : (seconds : ℕ) (past : Past) → IsDue before seconds → seconds < NEVER → Stands past before → taken ≡ min asked seconds
  due_taken seconds past due lt stands = elim (cases_lt taken seconds) [
    | inl less ↦
        let nothing = quiet_taken (λ k h. due.quiet k (omega (arith, h, less))) in
        let same = all_taken nothing.0 nothing.1 in
        same ∙ sym (min-eq_left (omega (arith, same, less)))
    | inr more ↦ elim (cases_lt seconds taken) [
      | inl over ↦ absurd (due.there lt past stands (t.quiet (seconds - 1) (omega (arith, over, due.first))))
      | inr under ↦
          let same : taken ≡ seconds = omega (arith, more, under) in
          same ∙ sym (min-eq_right (omega (arith, same, t.few)))
    ]
  ]

  never_taken : IsDue before NEVER → (taken ≡ asked) × (sent ≡ []) × (gone ≡ 0)
  never_taken due =
      let nothing = quiet_taken (λ k h. due.never refl k) in
      (all_taken nothing.0 nothing.1, nothing.0, nothing.1)

  taken_so : AreTaken asked taken before after sent gone
  taken_so = record {
    next = t.is;
    all = all_taken;
    some = some_taken;
    fewer = omega (arith, few taken before sent gone t.last, ap neighbors_held t.is);
    due = due_taken;
    never = never_taken;
  }

-- ---- agents that differ in clocks alone

lines_timeless : (ports : List PortState) → map status_line (map timeless_port ports) ≡ map status_line ports
lines_timeless [] = refl
lines_timeless (port ∷ ports) = ap (λ lines. status_line port ∷ lines) (lines_timeless ports)

same_length : (ports : List PortState) → length (map timeless_port ports) ≡ length ports
same_length [] = refl
same_length (port ∷ ports) = ap suc (same_length ports)

shown_timeless : (agent : AgentState) → configuration_lines (timeless agent) ≡ configuration_lines agent
shown_timeless agent = rw (lines_timeless agent.ports, same_length agent.ports) refl

abbrev octets_of : List Neighbor → List (List ℕ)
octets_of neighbors = map (λ neighbor. neighbor.octets) neighbors

octets_timeless : (neighbors : List Neighbor) → octets_of (timeless_neighbors neighbors) ≡ octets_of neighbors
octets_timeless [] = refl
octets_timeless (neighbor ∷ neighbors) = ap (λ rest. neighbor.octets ∷ rest) (octets_timeless neighbors)

port_timeless : (found : Option PortState) → octets_of (neighbors_on (option_map timeless_port found)) ≡ octets_of (neighbors_on found)
port_timeless None = refl
port_timeless (Some port) = octets_timeless port.table.neighbors

held_timeless : (agent : AgentState) (port : ℕ) → octets_of (neighbors_at (timeless agent) port) ≡ octets_of (neighbors_at agent port)
held_timeless agent port = ap (λ found. octets_of (neighbors_on found)) (slice_get-map timeless_port agent.ports port) ∙ port_timeless (slice_get agent.ports port)

look_the_same : (agent other : AgentState) → timeless agent ≡ timeless other → LookTheSame agent other
look_the_same agent other e = record {
  chassis = ap (λ (a : AgentState). chassis_lines a.configuration) e;
  configuration = sym (shown_timeless agent) ∙ ap configuration_lines e ∙ shown_timeless other;
  neighbors = λ port. sym (held_timeless agent port) ∙ ap (λ (a : AgentState). octets_of (neighbors_at a port)) e ∙ held_timeless other port;
}

pub returns-clause-passing : goal.returns-clause-passing
returns-clause-passing c = record {
  taken = taken_so;
  same = λ agent seconds k due lt. look_the_same (ticked k agent) agent (due.same k lt);
}
