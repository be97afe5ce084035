use Rattle.std.proofs.Common.{arith}
use Rattle.lldp_table.proofs.Ageing.Due.{sum_step, one_here, one_behind, one_after}
use Rattle.lldp_table.proofs.times.left_in.Goals as goal

pub returns-then-other-slot : goal.returns-then-other-slot
returns-then-other-slot c =
    let l = c.loop-other in
    rw c.look-left.ensures (one_here c.args.times.now.shown c.args.slots.now c.requires l.other-index l.left c.loop-other-test.true c.args.slot l.invariant.rest c.if-other-slot.true)

pub loop-other-preserved : goal.loop-other-preserved
loop-other-preserved c =
    let l = c.loop-other in
    let times = c.args.times.now.shown in
    let slots = c.args.slots.now in
    rw c.look-left.ensures (record {
      sum = omega (arith, sum_step times slots c.requires l.other-index l.left c.loop-other-test.true l.invariant.sum);
      rest = one_behind times slots c.requires l.other-index l.left c.loop-other-test.true c.args.slot l.invariant.rest c.if-other-slot.false;
    })

pub returns : goal.returns
returns c =
    let l = c.loop-other in
    one_after c.args.times.now.shown c.args.slots.now l.other-index l.left c.args.slot c.loop-other-test.false l.invariant.rest
