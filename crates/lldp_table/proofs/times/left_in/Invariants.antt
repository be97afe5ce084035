-- `left` is the sum of the gaps of the slots before this one, none of which is `slot`.
use Rattle.std.proofs.Common.{◌≡◌, ◌+◌, drop}
use Rattle.lldp_table.specs.Code.Queue.{ticks_left, total, dues}
use Rattle.lldp_table.proofs.times.left_in.Given as goal

abbrev pub invariant-loop-other : goal.invariant-loop-other
invariant-loop-other l = record {
  sum : l.left + total (dues l.times.shown (drop l.other-index l.slots)) ≡ total (dues l.times.shown l.slots);
  rest : l.left + ticks_left (dues l.times.shown (drop l.other-index l.slots)) l.slot ≡ ticks_left (dues l.times.shown l.slots) l.slot;
}
