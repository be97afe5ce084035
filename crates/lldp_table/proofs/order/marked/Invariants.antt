-- `found` has the slots with a mark before this one.
use Rattle.std.proofs.Common.{◌≡◌, take}
use Rattle.std.specs.List.{filter}
use Rattle.lldp_table.specs.Code.Marks.{has_mark}
use Rattle.lldp_table.proofs.order.marked.Given as goal

abbrev pub invariant-loop-slot : goal.invariant-loop-slot
invariant-loop-slot l = l.found.items ≡ filter (has_mark l.marks) (take l.slot-index l.slots)
