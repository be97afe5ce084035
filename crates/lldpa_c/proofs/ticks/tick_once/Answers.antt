use Rattle.std.proofs.Common.{ap, arith}
use Rattle.lldpa_c.specs.Ticks.{neighbors_held}
use Rattle.lldpa_c.proofs.Ticking.{no_more}
use Rattle.lldpa_c.proofs.ticks.tick_once.Goals as goal

pub overflow_sub-result : goal.overflow_sub-result
overflow_sub-result c = omega (arith, c.count_neighbors-before.ensures, c.count_neighbors-after.ensures, ap neighbors_held c.step-sent.ensures.after, no_more c.args.agent.now)

pub returns-clause-aged_out : goal.returns-clause-aged_out
returns-clause-aged_out c = omega (arith, c.count_neighbors-before.ensures, c.count_neighbors-after.ensures, ap neighbors_held c.step-sent.ensures.after, no_more c.args.agent.now)
