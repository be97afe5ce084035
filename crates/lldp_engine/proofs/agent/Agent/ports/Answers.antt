use Rattle.std.proofs.Common.{length, ap, arith}
use Rattle.lldp_engine.specs.AgentState.{AgentState}
use Rattle.lldp_engine.proofs.Readers.{number_reads}
use Rattle.lldp_engine.proofs.agent.Agent.ports.Goals as goal

pub returns-clause-past : goal.returns-clause-past
returns-clause-past g c = λ past h.
    let same = ap (λ (a : AgentState). length a.ports) c.self.view_is in
    omega (arith, number_reads past c.args.self.now h, same, c.len.ensures)
