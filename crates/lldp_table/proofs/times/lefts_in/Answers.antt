use Rattle.std.proofs.Common.{length-set, ◌∙◌, arith}
use Rattle.lldp_table.proofs.Ageing.Due.{sum_step, done_step, here_step, rest_step}
use Rattle.lldp_table.proofs.times.lefts_in.Goals as goal

pub loop-slot-preserved : goal.loop-slot-preserved
loop-slot-preserved c =
    let i = c.loop-slot.invariant in
    let times = c.args.times.now.shown in
    let slots = c.args.slots.now in
    let k = c.loop-slot.slot-index in
    let here = here_step times slots c.requires k c.loop-slot.left c.loop-slot-test.true i.rest in
    rw c.look-left.ensures (record {
      all = length-set c.loop-slot.lefts _ _ ∙ i.all;
      sum = omega (arith, sum_step times slots c.requires k c.loop-slot.left c.loop-slot-test.true i.sum);
      done = done_step times slots c.requires k c.loop-slot.left c.loop-slot-test.true c.loop-slot.lefts i.all i.done here;
      rest = rest_step times slots c.requires k c.loop-slot.left c.loop-slot-test.true i.rest;
    })
