use Rattle.std.proofs.Common.{arith}
use Rattle.lldp_table.proofs.queue.Queue.leave.Goals as goal
use Rattle.std.proofs.lemmas.Grind.{common_steps}

pub invariant_of-self : goal.invariant_of-self
invariant_of-self c = grind (arith, common_steps)
