use Rattle.std.proofs.Common.{get_or, List, ap, ◌∙◌}
use Rattle.lldp_engine.specs.AgentState.{AgentState, PortState}
use Rattle.lldp_engine.proofs.Readers.{port_reads}
use Rattle.lldp_engine.proofs.agent.Agent.port.Goals as goal

pub returns-clause-named : goal.returns-clause-named
returns-clause-named g c = λ past h.
    let p = c.at.result.now in
    let same = ap (λ (a : AgentState). a.ports) c.self.view_is in
    (port_reads past c.args.self.now c.args.port p h c.requires (c.at.ensures ∙ ap (λ (ps : List PortState). get_or ps c.args.port p) same)).named

pub returns-clause-past : goal.returns-clause-past
returns-clause-past g c = λ past h.
    let p = c.at.result.now in
    let same = ap (λ (a : AgentState). a.ports) c.self.view_is in
    (port_reads past c.args.self.now c.args.port p h c.requires (c.at.ensures ∙ ap (λ (ps : List PortState). get_or ps c.args.port p) same)).is
