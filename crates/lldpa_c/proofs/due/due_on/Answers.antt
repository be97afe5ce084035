use Rattle.std.proofs.Common.{ap, ◌∙◌, arith}
use Rattle.lldpa_c.specs.Due.{until_sends}
use Rattle.lldpa_c.proofs.Dueness.{due_more, due_all}
use Rattle.lldpa_c.proofs.due.due_on.Goals as goal

pub loop-port-preserved : goal.loop-port-preserved
loop-port-preserved c =
    due_more c.loop-port.due c.sooner-due.result c.sooner.result c.soonest.result c.until_sends-sends.result c.args.agent.now.ports c.loop-port.port c.table.result.now.shown c.machine.result.now c.sooner-due.ensures c.sooner.ensures c.soonest.ensures (c.until_sends-sends.ensures ∙ ap until_sends c.parts.ensures) c.table.ensures.value c.machine.ensures.value c.loop-port.invariant

pub returns : goal.returns
returns c = due_all c.loop-port.due c.args.agent.now.ports c.loop-port.port (omega (arith, c.loop-port-test.false, c.ports-port-end.ensures.value)) c.loop-port.invariant
