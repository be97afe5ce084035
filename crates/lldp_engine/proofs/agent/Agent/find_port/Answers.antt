use Rattle.std.proofs.Common.{ℕ, map, List, ap, ◌∙◌}
use Rattle.lldp_engine.specs.AgentState.{AgentState, PortState}
use Rattle.lldp_engine.specs.Place.{place_from}
use Rattle.lldp_engine.proofs.Readers.{names_read, place_exists}
use Rattle.lldp_engine.proofs.agent.Agent.find_port.Goals as goal

pub returns-clause-exists : goal.returns-clause-exists
returns-clause-exists g c =
    let same = c.as_slice.ensures ∙ ap (λ (a : AgentState). a.ports) c.self.view_is in
    place_exists c.args.self.now.ports c.args.name.now c.find_place.result
    (c.find_place.ensures ∙ ap (λ (ps : List PortState). place_from 0 (map (λ (p : PortState). p.name) ps) c.args.name.now) same)

pub returns-clause-past : goal.returns-clause-past
returns-clause-past g c = λ past h.
    let same = c.as_slice.ensures ∙ ap (λ (a : AgentState). a.ports) c.self.view_is in
    c.find_place.ensures ∙ ap (λ (ps : List PortState). place_from 0 (map (λ (p : PortState). p.name) ps) c.args.name.now) same
    ∙ ap (λ (names : List (List ℕ)). place_from 0 names c.args.name.now) (names_read past c.args.self.now h)

pub find_place-requires : goal.find_place-requires
find_place-requires g c = rw c.as_slice.ensures c.self.invariant.0.few
