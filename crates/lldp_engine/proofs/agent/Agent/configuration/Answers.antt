use Rattle.std.proofs.Common.{ap, ◌∙◌}
use Rattle.lldp_engine.specs.AgentState.{AgentState}
use Rattle.lldp_engine.proofs.Frames.Past.{configuration_reads}
use Rattle.lldp_engine.proofs.agent.Agent.configuration.Goals as goal

pub returns-clause-past : goal.returns-clause-past
returns-clause-past g c = λ past h. ap (λ (a : AgentState). a.configuration) c.self.view_is ∙ configuration_reads past c.args.self.now h
