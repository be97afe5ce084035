use Rattle.std.proofs.Common.{refl}
use Rattle.lldp_engine.specs.Event.{event_of}
use Rattle.lldp_program.proofs.Texts.Sent.{event_runs}
use Rattle.lldp_program.proofs.trace.run_event.Goals as goal

pub returns : goal.returns
returns g c =
    event_runs _ (event_of c.args.event) c.args.agent.now _ _ _ _ _ refl c.step_told.ensures.stands c.step_told.ensures.marks_past c.write_marks.ensures
