use Rattle.std.proofs.Common.{◌≡◌, false, sym, ◌∙◌, ap, length, length-set, nat_eq, arith}
use Rattle.std.specs.List.{list_any}
use Rattle.lldp_table.proofs.Ageing.Due.{entered, holds-dues, queue_entered}
use Rattle.lldp_table.proofs.queue.enter_into.Goals as goal
use Rattle.std.proofs.lemmas.Grind.{common_steps}

pub returns-clause-after : goal.returns-clause-after
returns-clause-after c = grind (arith, common_steps, holds-dues, entered)

pub returns-clause-queue : goal.returns-clause-queue
returns-clause-queue c =
    let times = c.args.times.now.shown in
    let slots = c.args.slots.now.items in
    let less = rw (c.as_slice-2.ensures.value, c.place_for-at.ensures.same) at c.lessen.ensures in
    let new : list_any (nat_eq c.args.slot) slots ≡ false = sym (holds-dues times c.args.slot slots) ∙ c.requires.new in
    queue_entered times slots c.requires.queue c.set.new.self.shown c.insert.new.self.items
    (ap length c.set.ensures.value ∙ length-set c.lessen.new.times.shown c.args.slot c.place_for-at.result.1 ∙ less.all)
    c.args.slot c.args.left c.requires.within c.ranges.left.fits new (returns-clause-after c)
