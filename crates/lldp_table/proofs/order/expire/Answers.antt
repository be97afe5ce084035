use Rattle.std.proofs.Common.{true, take, length, refl, ap, sym, subst, ◌∙◌, arith}
use Rattle.lldp_table.specs.Code.Queue.{ticks_left, IsTimed}
use Rattle.lldp_table.specs.Code.Layout.{neighbors_at}
use Rattle.lldp_table.proofs.Slots.Places.{distinct-take}
use Rattle.lldp_table.proofs.Ageing.Ticks.{aging_begins, aging_goes_on, aging_keeps, aging_takes, aging_timed, parted_count, parted_front, parted_behind, parted_moved}
use Rattle.lldp_table.proofs.order.expire.Goals as goal

pub loop-spent-init : goal.loop-spent-init
loop-spent-init c =
    let used = take c.args.used c.args.order.now.items in
    let apart = distinct-take c.args.used c.args.order.now.items c.requires.distinct in
    record {
      aging = λ before e t. rw e (aging_begins before used t apart true (rw e at (sym c.requires.spent)));
      told = sym c.requires.spent;
      counted = omega arith;
    }

pub loop-spent-preserved : goal.loop-spent-preserved
loop-spent-preserved c =
    let used = take c.args.used c.args.order.now.items in
    let apart = distinct-take c.args.used c.args.order.now.items c.requires.distinct in
    let l = c.loop-spent in
    record {
      aging = λ before e t. rw c.is_spent-spent.ensures.same
          (aging_goes_on before used t apart l.queue.shown l.marks l.spent (l.invariant.aging before e t) c.pop-slot.result c.pop-slot.new.self.shown c.pop-slot.ensures.after
          (omega (arith, c.pop-slot.type_inv)) c.is_spent-spent.result c.is_spent-spent.ensures.spent);
      told = rw c.is_spent-spent.ensures.same c.is_spent-spent.ensures.spent;
      counted = omega (arith, c.is_spent-spent.ensures.counted, c.pop-slot.ensures.uncounted, l.invariant.counted, ap length c.pop-slot.ensures.after, ap length c.is_spent-spent.ensures.same);
    }

pub returns-clause-aged : goal.returns-clause-aged
returns-clause-aged c =
    let order = c.args.order.now.items in
    let used = take c.args.used order in
    let apart = distinct-take c.args.used order c.requires.distinct in
    let l = c.loop-spent in
    let front = parted_front l.marks c.args.used order c.requires.used in
    λ before e t.
    let h = l.invariant.aging before e t in
    rw (c.part.ensures.order, c.part.ensures.kept) (record {
      neighbors = λ slots.
          ap (neighbors_at slots (ticks_left l.queue.shown)) front
          ∙ aging_keeps before used t apart l.queue.shown l.marks l.spent h c.loop-spent-test.false slots;
      gone = λ slots.
          ap (neighbors_at slots (λ i. 1)) (parted_behind l.marks c.args.used order c.requires.used _ refl)
          ∙ aging_takes before used t apart l.queue.shown l.marks l.spent h c.loop-spent-test.false slots;
      timed = subst (IsTimed l.queue.shown) (sym front) (aging_timed before used t apart l.queue.shown l.marks l.spent h c.loop-spent-test.false);
      moved = parted_moved l.marks c.args.used order c.requires.used;
      fewer = omega (arith, parted_count l.marks c.args.used order c.requires.used);
    })
