use borrow.Author.Rules.{scaled_Fits}
use Rattle.std.proofs.Common.{length, set, ap, sym, ◌∙◌}
use Rattle.std.proofs.lemmas.Option.{slice_get-get_or}
use Rattle.lldp_engine.specs.Port.EventView.{port_event_of}
use Rattle.lldp_engine.specs.Code.PortStep.{port_step, port_mark}
use Rattle.lldp_engine.specs.Code.Telling.{told_at}
use Rattle.lldp_engine.proofs.AllPorts.EachPort.{one_port_after, one_port_marks}
use Rattle.lldp_engine.proofs.agent.ports.take_event.Goals as goal

pub bounds-ports-port : goal.bounds-ports-port
bounds-ports-port g c = (rw c.in-OnePort.is at c.requires.can).0

pub offset_bounds-ports-port : goal.offset_bounds-ports-port
offset_bounds-ports-port g c =
    scaled_Fits c.in-OnePort.port (length c.args.ports.now) _ (bounds-ports-port g c) c.well_formed.0.1

pub returns-in-OnePort-clause-after : goal.returns-in-OnePort-clause-after
returns-in-OnePort-clause-after g c =
    let e = port_event_of c.in-OnePort.own in
    let q = c.in-OnePort.port in
    let can = rw c.in-OnePort.is at c.requires.can in
    rw c.in-OnePort.is (ap (set c.args.ports.now q) (c.take-mark.ensures.after ∙ ap (port_step e c.args.interval) (sym c.index-ports-port.is))
    ∙ one_port_after e c.args.interval q c.args.ports.now c.index-ports-port.result can.0 c.index-ports-port.is)

pub returns-in-OnePort-clause-marks : goal.returns-in-OnePort-clause-marks
returns-in-OnePort-clause-marks g c =
    let e = port_event_of c.in-OnePort.own in
    let q = c.in-OnePort.port in
    let can = rw c.in-OnePort.is at c.requires.can in
    let mark = c.take-mark.ensures.mark ∙ ap (port_mark e c.args.interval) (sym c.index-ports-port.is) in
    rw (c.in-OnePort.is, c.note.ensures.noted, c.clear.ensures, mark) (one_port_marks e c.args.interval q c.args.ports.now c.index-ports-port.result can.0 c.index-ports-port.is)

pub returns-in-OnePort-clause-told : goal.returns-in-OnePort-clause-told
returns-in-OnePort-clause-told g c =
    let can = rw c.in-OnePort.is at c.requires.can in
    let there = slice_get-get_or c.args.ports.now c.in-OnePort.port c.index-ports-port.result can.0 in
    rw c.in-OnePort.is (c.take-mark.ensures.told ∙ ap (told_at (port_event_of c.in-OnePort.own)) (sym there))
