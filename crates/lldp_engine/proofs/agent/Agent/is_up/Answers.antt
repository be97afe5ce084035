use Rattle.std.proofs.Common.{◌∙◌}
use Rattle.lldp_engine.specs.Past.{past_of}
use Rattle.lldp_engine.proofs.Headline.Promise.{links_read}
use Rattle.lldp_engine.proofs.agent.Agent.is_up.Goals as goal

pub returns-clause-past : goal.returns-clause-past
returns-clause-past g c = λ past h. c.is_up.ensures ∙ links_read past.options (past_of past c.args.port) _ (c.port.ensures.past past h)
