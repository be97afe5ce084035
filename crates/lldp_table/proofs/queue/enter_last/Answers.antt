use Rattle.std.proofs.Common.{◌≡◌, ◌+◌, false, sym, ◌∙◌, ap, length, length-set, nat_eq, arith}
use Rattle.std.specs.List.{list_any}
use Rattle.lldp_table.specs.Code.Queue.{dues, total}
use Rattle.lldp_table.proofs.Ageing.Due.{entered_last, holds-dues, queue_entered}
use Rattle.lldp_table.proofs.queue.enter_last.Goals as goal
use Rattle.std.proofs.lemmas.Grind.{common_steps}

pub returns-clause-after : goal.returns-clause-after
returns-clause-after c = grind (arith, common_steps, holds-dues, entered_last)

pub returns-clause-queue : goal.returns-clause-queue
returns-clause-queue c =
    let times = c.args.times.now.shown in
    let slots = c.args.slots.now.items in
    let new : list_any (nat_eq c.args.slot) slots ≡ false = sym (holds-dues times c.args.slot slots) ∙ c.requires.new in
    queue_entered times slots c.requires.queue c.set.new.self.shown c.push.new.self.items
    (ap length c.set.ensures.value ∙ length-set times c.args.slot c.args.gap ∙ c.requires.queue.all)
    c.args.slot (total (dues times slots) + c.args.gap) c.requires.within (omega (arith, c.requires.fits)) new (returns-clause-after c)
