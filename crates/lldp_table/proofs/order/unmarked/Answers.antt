use Rattle.std.proofs.Common.{ap, length, arith, not}
use Rattle.lldp_table.specs.Code.Marks.{has_mark}
use Rattle.lldp_table.proofs.Ageing.Ticks.{some_of}
use Rattle.lldp_table.proofs.order.unmarked.Goals as goal

pub push-requires : goal.push-requires
push-requires c =
    let l = c.loop-slot in
    let few = some_of (λ i. not (has_mark c.args.marks.now i)) l.slot-index c.args.slots.now c.loop-slot-test.true in
    omega (arith, few, c.requires, ap length l.invariant)
