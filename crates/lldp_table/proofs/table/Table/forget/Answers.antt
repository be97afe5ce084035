use Rattle.std.proofs.Common.{sym, ap, ◌∙◌, arith}
use Rattle.std.proofs.lemmas.List.{get_or_default}
use Rattle.lldp_pdu.specs.View.{msap_view}
use Rattle.lldp_table.specs.Events.{forget}
use Rattle.lldp_table.specs.Contents.{Contents}
use Rattle.lldp_table.specs.Code.Steps.{after_forget}
use Rattle.lldp_table.proofs.Slots.Counted.{shown_is}
use Rattle.lldp_table.proofs.Standing.Calls.{stands_after, held_is_live}
use Rattle.lldp_table.proofs.Slots.Places.{forgets_none, held_there}
use Rattle.lldp_table.proofs.Slots.Layout.{fits, named_there}
use Rattle.lldp_table.proofs.Slots.Learned.{is_in, forgotten_after, forgotten_table}
use Rattle.lldp_table.proofs.table.Table.forget.Goals as goal
use Rattle.std.proofs.lemmas.Grind.{common_steps}

pub leave-requires : goal.leave-requires
leave-requires g c =
    let f = named_there c.self.invariant.table.laid (shown_is c.self.view_is) (msap_view c.args.msap.now) c.in-Some.at c.in-Some.ensures in
    rw (c.remove-slot.ensures.value, get_or_default c.self.inside.order.items c.in-Some.at c.remove-slot.result 0 (omega (arith, f.0, fits c.self.invariant.table.laid))) (is_in c.self.invariant.table c.in-Some.at f.0)

pub invariant_of-self-in-Some : goal.invariant_of-self-in-Some
invariant_of-self-in-Some g c =
    let name = msap_view c.args.msap.now in
    let f = named_there c.self.invariant.table.laid (shown_is c.self.view_is) name c.in-Some.at c.in-Some.ensures in
    record {
      table = rw (c.push.ensures.items, c.remove-slot.ensures.items) (forgotten_table c.self.invariant.table c.in-Some.at f.0 name f.1 c.remove-slot.ensures.value c.leave.ensures);
      tagged = c.self.invariant.tagged;
    }

pub returns-in-None-clause-after : goal.returns-in-None-clause-after
returns-in-None-clause-after g c = grind (arith, common_steps, forgets_none)

pub returns-in-Some-clause-answer : goal.returns-in-Some-clause-answer
returns-in-Some-clause-answer g c = sym (held_there (msap_view c.args.msap.now) _ c.in-Some.at c.in-Some.ensures)

pub returns-in-Some-clause-after : goal.returns-in-Some-clause-after
returns-in-Some-clause-after g c =
    let name = msap_view c.args.msap.now in
    let f = named_there c.self.invariant.table.laid (shown_is c.self.view_is) name c.in-Some.at c.in-Some.ensures in
    rw (c.push.ensures.items, c.remove-slot.ensures.items) (forgotten_after c.self.invariant.table c.in-Some.at f.0 name f.1 c.remove-slot.ensures.value c.leave.ensures)
    ∙ ap (λ (table : Contents). after_forget table name) (shown_is c.self.view_is)

pub returns-in-None-clause-answers : goal.returns-in-None-clause-answers
returns-in-None-clause-answers g c = λ opened calls h. sym c.in-None.ensures ∙ held_is_live c.args.self.now.shown opened calls (msap_view c.args.msap.now) h

pub returns-in-None-clause-stands : goal.returns-in-None-clause-stands
returns-in-None-clause-stands g c = λ opened calls h. stands_after c.args.self.now.shown _ opened calls (forget (msap_view c.args.msap.now)) (returns-in-None-clause-after g c) tt h

pub returns-in-Some-clause-answers : goal.returns-in-Some-clause-answers
returns-in-Some-clause-answers g c = λ opened calls h. returns-in-Some-clause-answer g c ∙ held_is_live c.args.self.now.shown opened calls (msap_view c.args.msap.now) h

pub returns-in-Some-clause-stands : goal.returns-in-Some-clause-stands
returns-in-Some-clause-stands g c = λ opened calls h. stands_after c.args.self.now.shown _ opened calls (forget (msap_view c.args.msap.now)) (returns-in-Some-clause-after g c) tt h
