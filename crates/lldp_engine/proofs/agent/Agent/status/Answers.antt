use Rattle.std.proofs.Common.{◌∙◌}
use Rattle.lldp_engine.specs.Past.{past_of}
use Rattle.lldp_engine.proofs.Headline.Promise.{status_is}
use Rattle.lldp_engine.proofs.agent.Agent.status.Goals as goal

pub returns-clause-past : goal.returns-clause-past
returns-clause-past g c = λ past h. c.status.ensures ∙ status_is past.options (past_of past c.args.port) _ (c.port.ensures.past past h)
