use Rattle.lldp_program.proofs.Statuses.{told_by}
use Rattle.lldp_program.proofs.program.tell.Goals as goal

pub returns-clause-told : goal.returns-clause-told
returns-clause-told g c = told_by c.args.fault c.send.result _ _ _ _ _ c.line.ensures c.send.ensures.written c.send.ensures.failures
