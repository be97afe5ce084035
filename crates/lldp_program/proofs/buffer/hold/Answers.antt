use Rattle.std.proofs.Common.{arith}
use Rattle.lldp_program.proofs.Lines.Held.{held_moved, held_there}
use Rattle.lldp_program.proofs.buffer.hold.Goals as goal

pub returns-then-start-gt0-clause-held : goal.returns-then-start-gt0-clause-held
returns-then-start-gt0-clause-held c =
    rw c.copy_within.ensures.after (held_moved c.args.buffer.now c.args.start c.args.end c.min-held.result c.requires.order c.requires.within c.min-held.ensures)

pub returns-else-start-gt0-clause-held : goal.returns-else-start-gt0-clause-held
returns-else-start-gt0-clause-held c =
    held_there c.args.buffer.now c.args.start c.args.end c.min-held.result (omega arith) c.min-held.ensures
