use Rattle.std.proofs.Common.{◌∙◌}
use Rattle.lldp_engine.specs.Past.{past_of}
use Rattle.lldp_engine.proofs.Headline.Promise.{machine_is}
use Rattle.lldp_engine.proofs.agent.Agent.machine.Goals as goal

pub returns-clause-past : goal.returns-clause-past
returns-clause-past g c = λ past h. c.machine.ensures ∙ machine_is past.options (past_of past c.args.port) _ (c.port.ensures.past past h)
