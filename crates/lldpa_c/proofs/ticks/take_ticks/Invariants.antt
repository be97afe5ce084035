use Rattle.std.proofs.Common.{◌-◌, ◌≤◌}
use Rattle.lldpa_c.proofs.Ticking.{TakesSo}
use Rattle.lldpa_c.proofs.ticks.take_ticks.Given as goal

abbrev pub invariant-loop-taken : goal.invariant-loop-taken
invariant-loop-taken l = record {
  few : l.taken ≤ l.count;
  so : TakesSo l.taken l.initial.agent l.agent l.sent.items l.aged_out;
}

abbrev pub decreases-loop-taken : goal.decreases-loop-taken
decreases-loop-taken l = l.count - l.taken
