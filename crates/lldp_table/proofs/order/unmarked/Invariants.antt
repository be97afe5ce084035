-- `found` has the slots without a mark before this one.
use Rattle.std.proofs.Common.{◌≡◌, not, take}
use Rattle.std.specs.List.{filter}
use Rattle.lldp_table.specs.Code.Marks.{has_mark}
use Rattle.lldp_table.proofs.order.unmarked.Given as goal

abbrev pub invariant-loop-slot : goal.invariant-loop-slot
invariant-loop-slot l = l.found.items ≡ filter (λ i. not (has_mark l.marks i)) (take l.slot-index l.slots)
