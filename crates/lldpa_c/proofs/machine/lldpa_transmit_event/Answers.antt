use Rattle.std.proofs.Common.{sym, subst, ◌∙◌}
use Rattle.lldp_transmit.specs.Code.Machine.{Machine}
use Rattle.lldpa_c.specs.Machine.{Takes}
use Rattle.lldpa_c.proofs.machine.lldpa_transmit_event.Goals as goal

pub returns-clause-step : goal.returns-clause-step
returns-clause-step c _ =
    let e = c.event-answer.ensures in
    let cause = c.in-Some.cause in
    let interval = c.args.interval in
    let mark = c.event-answer.result in
    let taken : Takes c.in-Some-of_parts.transmit cause interval c.event-answer.new.self mark = record {
      next = e.next;
      told = e.answer;
      stands = e.stands;
      mark = e.mark;
      ordinary = e.ordinary;
      shutdown = e.shutdown;
      bounded = e.bounded;
      few_stops = e.few_stops;
      earliest = e.earliest;
    } in
    let from : Takes c.args.machine.now cause interval c.event-answer.new.self mark =
    subst (λ (t : Machine). Takes t cause interval c.event-answer.new.self mark) c.in-Some-of_parts.ensures.some taken in
    (cause, mark, sym (c.cause_numbered.ensures) ∙ c.in-Some.is, c.mark_number.ensures, subst (λ (t : Machine). Takes c.args.machine.now cause interval t mark) (sym c.parts.ensures) from)
