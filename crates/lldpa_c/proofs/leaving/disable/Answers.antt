use Rattle.lldpa_c.proofs.Disabling.{told_sent}
use Rattle.lldpa_c.proofs.leaving.disable.Goals as goal

pub returns-clause-sends : goal.returns-clause-sends
returns-clause-sends c = told_sent c.args.agent.now c.args.port c.step-sent.result.items c.is_empty.result c.requires c.step-sent.ensures.marks c.is_empty.ensures
