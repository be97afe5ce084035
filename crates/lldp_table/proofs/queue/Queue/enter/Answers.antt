use Rattle.std.proofs.Common.{arith}
use Rattle.lldp_table.proofs.Ageing.Steps.{total-enter}
use Rattle.lldp_table.proofs.queue.Queue.enter.Goals as goal
use Rattle.std.proofs.lemmas.Grind.{common_steps}

pub invariant_of-self : goal.invariant_of-self
invariant_of-self c = grind (arith, common_steps, total-enter)

pub invariant_of-self-2 : goal.invariant_of-self-2
invariant_of-self-2 c = grind (arith, common_steps, total-enter)
