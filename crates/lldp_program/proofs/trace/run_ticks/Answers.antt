use Rattle.std.proofs.Common.{refl, ◌∷◌, []}
use Rattle.std.proofs.lemmas.Result.{err_from_is_err_and}
use Rattle.lldp_engine.specs.Event.{tick}
use Rattle.lldp_program.specs.Trace.Items.{happens}
use Rattle.lldp_program.proofs.Runs.Joined.{nothing_runs, runs_then, runs_cut_off, ticks_left}
use Rattle.lldp_program.proofs.trace.run_ticks.Goals as goal
use Rattle.std.proofs.lemmas.List.{replicate_more}

pub loop-done-init : goal.loop-done-init
loop-done-init g c = nothing_runs _ _ _ tt (λ past. refl)

pub loop-done-preserved : goal.loop-done-preserved
loop-done-preserved g c = runs_then _ (λ _. happens tick ∷ []) _ _ _ _ _ _ _ _ tt (λ past. replicate_more c.loop-done._done (happens tick)) c.loop-done.invariant c.in_ok-run_event.ensures

pub returns-in_err-run_event : goal.returns-in_err-run_event
returns-in_err-run_event g c =
    let p = err_from_is_err_and c.from_residual.result c.from_residual.ensures.1 in
    let left = ticks_left c.loop-done._done c.args.ticks c.loop-done-test.true in
    rw p.1 (runs_cut_off _ (λ _. left.0) _ _ _ _ _ _ _ (λ past. left.1) (runs_then _ (λ _. happens tick ∷ []) _ _ _ _ _ _ _ _ tt (λ past. refl) c.loop-done.invariant c.in_err-run_event.ensures))
