use Rattle.std.proofs.Common.{◌∙◌}
use Rattle.lldp_engine.specs.Past.{past_of}
use Rattle.lldp_engine.proofs.Headline.Promise.{counters_are}
use Rattle.lldp_engine.proofs.agent.Agent.counters.Goals as goal

pub returns-clause-past : goal.returns-clause-past
returns-clause-past g c = λ past h. c.counters.ensures ∙ counters_are past.options (past_of past c.args.port) _ (c.port.ensures.past past h)
