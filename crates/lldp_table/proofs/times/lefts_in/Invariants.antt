-- `lefts` is filled in for the slots before this one, and `left` is the sum of their gaps.
use Rattle.std.proofs.Common.{◌≡◌, ◌+◌, take, drop, length, get_or}
use Rattle.std.specs.List.{AllByRecursion}
use Rattle.lldp_table.specs.Code.Queue.{ticks_left, total, dues}
use Rattle.lldp_table.proofs.times.lefts_in.Given as goal

abbrev pub invariant-loop-slot : goal.invariant-loop-slot
invariant-loop-slot l = record {
  all : length l.lefts ≡ 128;
  sum : l.left + total (dues l.times.shown (drop l.slot-index l.slots)) ≡ total (dues l.times.shown l.slots);
  done : AllByRecursion (λ i. get_or l.lefts i 0 ≡ ticks_left (dues l.times.shown l.slots) i) (take l.slot-index l.slots);
  rest : AllByRecursion (λ i. l.left + ticks_left (dues l.times.shown (drop l.slot-index l.slots)) i ≡ ticks_left (dues l.times.shown l.slots) i) (drop l.slot-index l.slots);
}
