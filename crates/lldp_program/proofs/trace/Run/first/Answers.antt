use Rattle.std.proofs.Common.{take, ap, refl}
use Rattle.std.proofs.lemmas.Result.{err_from_is_err_and}
use Rattle.lldp_program.specs.Trace.Items.{items_of_lines}
use Rattle.lldp_program.proofs.Lines.Pieces.{found_ends, none_found}
use Rattle.lldp_program.proofs.Runs.Joined.{done_as, failed_as, frame_items, line_items, nothing_runs, runs_same}
use Rattle.lldp_program.proofs.trace.Run.first.Goals as goal

pub returns-in_err-receive-clause-run : goal.returns-in_err-receive-clause-run
returns-in_err-receive-clause-run g c =
    let p = err_from_is_err_and c.from_residual.result c.from_residual.ensures.1 in
    let line = c.in-Some.line in
    rw p.1 record {
      agent = c.in_err-receive.ensures.agent;
      items_run = failed_as _ _ _ _ _ _ _ (runs_same _ _ _ _ _ _ _ (λ past stands. frame_items past c.args.self.now.agent.now c.args.text.now _ c.args.held line.end line.port c.in-Some.ensures.ends c.if-line-held.true c.in-Some.ensures.reads stands.is) c.in_err-receive.ensures.items_run);
    }

pub returns-then-line-held-clause-run : goal.returns-then-line-held-clause-run
returns-then-line-held-clause-run g c =
    let line = c.in-Some.line in
    record {
      agent = c.in_ok-receive.ensures.agent;
      items_run = done_as _ _ _ _ _ _ _ (runs_same _ _ _ _ _ _ _ (λ past stands. frame_items past c.args.self.now.agent.now c.args.text.now _ c.args.held line.end line.port c.in-Some.ensures.ends c.if-line-held.true c.in-Some.ensures.reads stands.is) c.in_ok-receive.ensures.items_run);
    }

pub returns-in_default-memchr-clause-none : goal.returns-in_default-memchr-clause-none
returns-in_default-memchr-clause-none g c = none_found (take c.args.held c.args.text.now) c.in_default-memchr.ensures

pub returns-in_default-memchr-clause-run : goal.returns-in_default-memchr-clause-run
returns-in_default-memchr-clause-run g c = record {
  agent = refl;
  items_run = nothing_runs _ _ _ _ (λ past. ap (λ ls. items_of_lines past (take 1 ls)) (returns-in_default-memchr-clause-none g c));
}

pub returns-in_err-line-clause-run : goal.returns-in_err-line-clause-run
returns-in_err-line-clause-run g c =
    let p = err_from_is_err_and c.from_residual-in_err-line.result c.from_residual-in_err-line.ensures.1 in
    let ends = found_ends (take c.args.held c.args.text.now) c.in-Some-memchr.end c.in-Some-memchr.ensures in
    rw p.1 record {
      agent = c.in_err-line.ensures.agent;
      items_run = failed_as _ _ _ _ _ _ _ (runs_same _ _ _ _ _ _ _ (λ past stands. line_items past c.args.text.now c.args.held c.in-Some-memchr.end ends) c.in_err-line.ensures.items_run);
    }

pub returns-clause-ends : goal.returns-clause-ends
returns-clause-ends g c = found_ends (take c.args.held c.args.text.now) c.in-Some-memchr.end c.in-Some-memchr.ensures

pub returns-clause-run : goal.returns-clause-run
returns-clause-run g c = record {
  agent = c.in_ok-line.ensures.agent;
  items_run = done_as _ _ _ _ _ _ _ (runs_same _ _ _ _ _ _ _ (λ past stands. line_items past c.args.text.now c.args.held c.in-Some-memchr.end (returns-clause-ends g c)) c.in_ok-line.ensures.items_run);
}
