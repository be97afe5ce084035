use Rattle.std.proofs.Common.{refl, ap, ◌∙◌}
use Rattle.lldp_program.proofs.Runs.Joined.{runs_same}
use Rattle.lldp_program.proofs.trace.Run.line.Goals as goal
use Rattle.lldp_program.specs.Trace.Forms.{work_given}
use Rattle.lldp_program.specs.Trace.Items.{items_of_work}

pub returns : goal.returns
returns g c = record {
  agent = refl;
  items_run = runs_same _ _ _ _ _ _ _ (λ past stands. ap items_of_work (c.read_line-read.ensures.read ∙ ap (λ seen. work_given seen c.args.line.now) stands.is)) c.run_work.ensures;
}
