use Rattle.std.proofs.Common.{replicate}
use Rattle.std.specs.Prelude.{Ok}
use Rattle.lldp_engine.specs.Event.{tick}
use Rattle.lldp_program.specs.Trace.Items.{happens}
use Rattle.lldp_program.specs.Code.Parts.{RunsItems, Between}
use Rattle.lldp_program.proofs.trace.run_ticks.Given as goal

-- the ticks so far are done
abbrev pub invariant-loop-done : goal.invariant-loop-done
invariant-loop-done g l = Between g.W.Sink.taken g.W.Sink.failures g.W.Sink.place l.fn.output l.output (RunsItems {T = Unit {0}} (λ _. replicate l._done (happens tick)) (Ok tt) l.fn.agent l.agent)
