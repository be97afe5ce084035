use Rattle.std.proofs.Common.{◌∙◌}
use Rattle.lldp_engine.specs.AgentState.{names_of}
use Rattle.lldp_program.proofs.Texts.Taken.{puts_nothing}
use Rattle.lldp_program.proofs.Texts.Sent.{mark_next}
use Rattle.lldp_program.proofs.output.Output.put_frames.Goals as goal

pub loop-port-init : goal.loop-port-init
loop-port-init g c = puts_nothing _

pub loop-port-preserved : goal.loop-port-preserved
loop-port-preserved g c =
    mark_next (names_of c.args.agent.now) c.args.agent.now.configuration c.as_slice-port-items.result.now c.loop-port.port-index _ c.port_name.result.now c.as_slice.result.now _ _ _ c.loop-port-test.true
    c.port_name.ensures.name (c.as_slice.ensures.value ∙ c.write_frame.ensures.octets) c.loop-port.invariant c.put_frame.ensures
