-- The slots with a mark are those removed from the queue so far.
use Rattle.std.proofs.Common.{◌≡◌, ◌≤◌, ◌+◌, List, length, take}
use Rattle.lldp_table.specs.Code.Queue.{Due, less_first, is_spent, IsTimed}
use Rattle.lldp_table.proofs.Ageing.Ticks.{IsAging}
use Rattle.lldp_table.proofs.order.expire.Given as goal

abbrev pub invariant-loop-spent : goal.invariant-loop-spent
invariant-loop-spent l = record {
  aging : (before : List Due) → l.fn.queue.shown ≡ less_first 1 before → IsTimed before (take l.used l.fn.order.items) → IsAging before (take l.used l.fn.order.items) l.queue.shown l.marks l.spent;
  told : l.spent ≡ is_spent l.queue.shown;
  counted : l.queue.accesses + length l.queue.shown ≤ l.fn.queue.accesses + length l.fn.queue.shown;
}

abbrev pub decreases-loop-spent : goal.decreases-loop-spent
decreases-loop-spent l = length l.queue.shown
