use Rattle.std.proofs.Common.{sym, ◌∙◌, length, ap, arith}
use Rattle.lldp_table.specs.Events.{tick}
use Rattle.lldp_table.specs.Contents.{Contents}
use Rattle.lldp_table.specs.Code.Steps.{after_tick}
use Rattle.lldp_table.proofs.Slots.Counted.{shown_is}
use Rattle.lldp_table.proofs.Slots.Layout.{count}
use Rattle.lldp_table.proofs.Slots.Learned.{few_queued}
use Rattle.lldp_table.proofs.Ageing.Ticks.{less_count, quiet_after, quiet_table, aged_after, aged_table}
use Rattle.lldp_table.proofs.Standing.Calls.{stands_after}
use Rattle.lldp_table.proofs.Live.LastStored.{tick_answers}
use Rattle.lldp_table.proofs.table.Table.tick.Goals as goal

-- ## No neighbor ages out

pub invariant_of-self : goal.invariant_of-self
invariant_of-self g c = record {
  table = quiet_table c.self.invariant.table c.saturating_sub-self-inside.ensures c.pass.ensures.after (sym c.pass.ensures.spent ∙ c.if-not-pass.true);
  tagged = c.self.invariant.tagged;
}

pub returns-then-not-pass-clause-after : goal.returns-then-not-pass-clause-after
returns-then-not-pass-clause-after g c =
    quiet_after c.self.invariant.table c.saturating_sub-self-inside.ensures c.pass.ensures.after (sym c.pass.ensures.spent ∙ c.if-not-pass.true) ∙ ap after_tick (shown_is c.self.view_is)

pub returns-then-not-pass-clause-answer : goal.returns-then-not-pass-clause-answer
returns-then-not-pass-clause-answer g c =
    let table = invariant_of-self g c in
    let new = count table.table.laid in
    let old = count c.self.invariant.table.laid in
    let shown = ap (λ (table : Contents). length table.neighbors) (shown_is c.self.view_is) in
    omega (arith, new, old, shown)

pub returns-then-not-pass-clause-stands : goal.returns-then-not-pass-clause-stands
returns-then-not-pass-clause-stands g c = λ opened calls h. stands_after c.args.self.now.shown _ opened calls tick (returns-then-not-pass-clause-after g c) tt h

pub returns-then-not-pass-clause-answers : goal.returns-then-not-pass-clause-answers
returns-then-not-pass-clause-answers g c = λ opened calls h.
    tick_answers c.args.self.now.shown _ opened calls _ h (returns-then-not-pass-clause-stands g c opened calls h) (returns-then-not-pass-clause-answer g c)

-- ## Some neighbors age out

pub invariant_of-self-2 : goal.invariant_of-self-2
invariant_of-self-2 g c = record {
  table = aged_table c.self.invariant.table c.saturating_sub-self-inside.ensures (c.expire-kept.ensures.aged c.self.inside.queue.shown c.pass.ensures.after c.self.invariant.table.timed);
  tagged = c.self.invariant.tagged;
}

pub returns-clause-after : goal.returns-clause-after
returns-clause-after g c =
    aged_after c.self.invariant.table c.saturating_sub-self-inside.ensures (c.expire-kept.ensures.aged c.self.inside.queue.shown c.pass.ensures.after c.self.invariant.table.timed) ∙ ap after_tick (shown_is c.self.view_is)

pub returns-clause-answer : goal.returns-clause-answer
returns-clause-answer g c =
    let aged = c.expire-kept.ensures.aged c.self.inside.queue.shown c.pass.ensures.after c.self.invariant.table.timed in
    let table = invariant_of-self-2 g c in
    let new = count table.table.laid in
    let old = count c.self.invariant.table.laid in
    let shown = ap (λ (table : Contents). length table.neighbors) (shown_is c.self.view_is) in
    omega (arith, new, old, shown, aged.fewer)

pub returns-clause-accesses : goal.returns-clause-accesses
returns-clause-accesses g c =
    let aged = c.expire-kept.ensures.aged c.self.inside.queue.shown c.pass.ensures.after c.self.invariant.table.timed in
    let table = invariant_of-self-2 g c in
    omega (arith, c.expire-kept.ensures.counted, c.pass.ensures.counted, ap length c.pass.ensures.after, less_count c.self.inside.queue.shown, few_queued c.self.invariant.table, few_queued table.table, aged.fewer, ap (λ t. t.accesses) c.self.view_is)

pub returns-clause-stands : goal.returns-clause-stands
returns-clause-stands g c = λ opened calls h. stands_after c.args.self.now.shown _ opened calls tick (returns-clause-after g c) tt h

pub returns-clause-answers : goal.returns-clause-answers
returns-clause-answers g c = λ opened calls h. tick_answers c.args.self.now.shown _ opened calls _ h (returns-clause-stands g c opened calls h) (returns-clause-answer g c)
