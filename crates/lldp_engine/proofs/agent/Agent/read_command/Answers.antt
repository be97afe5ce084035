use Rattle.std.proofs.Common.{rules, ap, ◌∙◌}
use Rattle.lldp_engine.specs.AgentState.{AgentState}
use Rattle.lldp_engine.specs.Given.{command_given}
use Rattle.lldp_engine.proofs.agent.Agent.read_command.Goals as goal

pub returns-clause-read : goal.returns-clause-read
returns-clause-read g c = search rules

pub returns-clause-past : goal.returns-clause-past
returns-clause-past g c = λ past h. returns-clause-read g c ∙ ap (λ (agent : AgentState). command_given agent c.args.line.now) h.is
