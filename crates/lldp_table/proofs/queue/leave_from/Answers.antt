use Rattle.std.proofs.Common.{arith, sym, ◌∙◌}
use Rattle.lldp_table.proofs.Ageing.Due.{left_at, holds-dues, queue_left, two_fit, total_left_behind, total_left_last}
use Rattle.lldp_table.proofs.queue.leave_from.Goals as goal
use Rattle.std.proofs.lemmas.Grind.{common_steps}

pub place_in-at-requires : goal.place_in-at-requires
place_in-at-requires c = rw c.as_slice.ensures.value (sym (holds-dues c.args.times.now.shown c.args.slot c.args.slots.now.items) ∙ c.requires.there)

pub raise-requires-clause-fits : goal.raise-requires-clause-fits
raise-requires-clause-fits c = grind (arith, common_steps, two_fit)

-- ## If another slot is the last

pub returns-then-at-len-clause-after : goal.returns-then-at-len-clause-after
returns-then-at-len-clause-after c = grind (arith, common_steps, left_at)

pub returns-then-at-len-clause-queue : goal.returns-then-at-len-clause-queue
returns-then-at-len-clause-queue c =
    queue_left c.args.times.now.shown c.args.slots.now.items c.requires.queue c.raise.new.times.shown c.remove.new.self.items c.raise.ensures.all c.args.slot c.requires.there (returns-then-at-len-clause-after c)

pub returns-then-at-len-clause-less : goal.returns-then-at-len-clause-less
returns-then-at-len-clause-less c = grind (arith, common_steps, total_left_behind)

-- ## If the slot was the last

pub returns-clause-after : goal.returns-clause-after
returns-clause-after c = grind (arith, common_steps, left_at)

pub returns-clause-queue : goal.returns-clause-queue
returns-clause-queue c =
    queue_left c.args.times.now.shown c.args.slots.now.items c.requires.queue c.raise.new.times.shown c.remove.new.self.items c.raise.ensures.all c.args.slot c.requires.there (returns-clause-after c)

pub returns-clause-less : goal.returns-clause-less
returns-clause-less c = grind (arith, common_steps, total_left_last)
