-- `octets` is the number of octets in the slots before this one.
use Rattle.std.proofs.Common.{◌≡◌, ◌≤◌, ◌*◌, length, take}
use Rattle.std.specs.List.{sum_by}
use Rattle.lldp_table.specs.Code.Layout.{octets_at}
use Rattle.lldp_table.proofs.order.octets_of.Given as goal

abbrev pub invariant-loop-slot : goal.invariant-loop-slot
invariant-loop-slot l = record {
  sum : l.octets ≡ sum_by (λ i. length (octets_at l.slots i)) (take l.slot-index l.order);
  most : l.octets ≤ 1500 * l.slot-index;
}
