use borrow.Author.Rules.{scaled_Fits}
use Rattle.std.proofs.Common.{List, length, get_or, ap, sym, ◌∙◌, arith, add-one}
use Rattle.lldp_engine.specs.Port.EventView.{port_event_of}
use Rattle.lldp_engine.specs.AgentState.{PortState}
use Rattle.lldp_engine.specs.Code.PortStep.{port_step, port_mark}
use Rattle.lldp_engine.specs.Code.Taking.{FitsLimit}
use Rattle.lldp_engine.proofs.AllPorts.EachPort.{one_more, at_turn, all_taken}
use Rattle.lldp_engine.proofs.agent.ports.each_takes.Goals as goal

pub take-mark-requires : goal.take-mark-requires
take-mark-requires g c =
    let e = port_event_of c.args.event.now in
    let p = c.index-ports-i.result in
    rw (← c.index-ports-i.is) (at_turn (λ (port : PortState). FitsLimit e port.table) e c.args.interval 0 c.loop-i.i c.args.ports.now p c.loop-i-test.true
    (c.index-ports-i.is ∙ ap (λ (ps : List PortState). get_or ps c.loop-i.i p) c.loop-i.invariant.ports) c.requires.limits)

pub loop-i-preserved : goal.loop-i-preserved
loop-i-preserved g c =
    let e = port_event_of c.args.event.now in
    let i = c.loop-i.i in
    let p = c.index-ports-i.result in
    let at = c.index-ports-i.is ∙ ap (λ (ps : List PortState). get_or ps i p) c.loop-i.invariant.ports in
    let more = one_more e c.args.interval i c.args.ports.now p c.take-mark.new.self c.take-mark.result c.loop-i-test.true at
    (c.take-mark.ensures.after ∙ ap (port_step e c.args.interval) (sym c.index-ports-i.is)) (c.take-mark.ensures.mark ∙ ap (port_mark e c.args.interval) (sym c.index-ports-i.is)) in
    rw add-one (record {
      ports = rw c.loop-i.invariant.ports more.0;
      marks = rw (c.note.ensures.noted, c.loop-i.invariant.marks) more.1;
      few = omega (arith, c.note.ensures.few, c.loop-i.invariant.few);
    })

pub returns : goal.returns
returns g c =
    let e = port_event_of c.args.event.now in
    let all = all_taken e c.args.interval c.loop-i.i c.args.ports.now c.loop-i-test.false in
    record {
      after = c.loop-i.invariant.ports ∙ all.0;
      marks = rw all.1 at c.loop-i.invariant.marks;
    }

pub offset_bounds-ports-i : goal.offset_bounds-ports-i
offset_bounds-ports-i g c = scaled_Fits c.loop-i.i (length c.args.ports.now) _ c.loop-i-test.true c.well_formed.0.1
