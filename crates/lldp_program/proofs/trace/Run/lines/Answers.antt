use Rattle.std.proofs.Common.{◌≡◌, ◌-◌, ◌++◌, List, [], ℕ, take, arith, refl, sym, ap, ◌∙◌, length-take, length-drop}
use Rattle.std.proofs.lemmas.List.{append-nil, take_rest}
use Rattle.std.proofs.lemmas.Result.{err_from_is_err_and}
use Rattle.lldp_program.specs.Trace.Items.{items_of_lines}
use Rattle.lldp_program.proofs.Lines.Pieces.{all_lines, front_left, no_lf-unfinished, no_lf_left, none_behind, one_more_line, the_rest}
use Rattle.lldp_program.proofs.Runs.Joined.{done_as, later_items, next_items, nothing_runs, runs_cut_off, runs_then}
use Rattle.lldp_program.proofs.trace.Run.lines.Goals as goal
use Rattle.lldp_program.specs.Code.Pieces.{pieces}

pub returns-in_default-clause-rest : goal.returns-in_default-clause-rest
returns-in_default-clause-rest g c =
    let xs : List ℕ = take c.args.held c.args.buffer.now in
    let all : c.args.searched - 0 ≡ c.args.searched = omega arith in
    let none : pieces xs ≡ [] = no_lf_left xs 0 c.args.searched (omega arith) (rw all c.requires.no_line) (rw (front_left c.args.buffer.now c.args.searched c.args.held c.requires.within) at c.in_default.ensures) in
    (omega arith, sym (no_lf-unfinished xs none))

pub returns-in_default-clause-run : goal.returns-in_default-clause-run
returns-in_default-clause-run g c =
    let xs : List ℕ = take c.args.held c.args.buffer.now in
    let all : c.args.searched - 0 ≡ c.args.searched = omega arith in
    let none : pieces xs ≡ [] = no_lf_left xs 0 c.args.searched (omega arith) (rw all c.requires.no_line) (rw (front_left c.args.buffer.now c.args.searched c.args.held c.requires.within) at c.in_default.ensures) in
    record { agent = refl; items_run = nothing_runs _ _ _ _ (λ past. ap (items_of_lines past) none) }

pub ended-init : goal.ended-init
ended-init g c = record {
  high = omega arith;
  whole = refl;
  run = record { agent = refl; items_run = nothing_runs _ _ _ tt (λ past. refl) };
}

pub returns-in_err-end-clause-run : goal.returns-in_err-end-clause-run
returns-in_err-end-clause-run g c =
    let p = err_from_is_err_and c.from_residual.result c.from_residual.ensures.1 in
    let xs : List ℕ = take c.args.held c.args.buffer.now in
    let start = c.ended.start in
    let inv = c.ended.invariant in
    let later = later_items xs start inv.whole in
    let left = ap (take (c.args.held - start)) (take_rest c.args.buffer.now start) ∙ front_left c.args.buffer.now start c.args.held inv.high in
    rw p.1 record {
      agent = c.in_err-end.ensures.run.agent ∙ inv.run.agent;
      items_run = runs_cut_off _ later.0 _ _ _ _ _ _ _ later.1
          (runs_then _ _ _ _ _ _ _ _ _ _ tt (λ past. next_items past xs _ start _ left refl) inv.run.items_run c.in_err-end.ensures.run.items_run);
    }

pub ended-preserved : goal.ended-preserved
ended-preserved g c =
    let xs : List ℕ = take c.args.held c.args.buffer.now in
    let start = c.ended.start in
    let inv = c.ended.invariant in
    let left = ap (take (c.args.held - start)) (take_rest c.args.buffer.now start) ∙ front_left c.args.buffer.now start c.args.held inv.high in
    let ends = rw left at (rw c.in-Some-2.is at c.in_ok-end.ensures.ends) in
    let more = one_more_line xs start c.in-Some-2.end inv.whole ends in
    record {
      high = omega (arith, ends.within, length-drop start xs, length-take c.args.held c.args.buffer.now);
      whole = more.whole;
      run = record {
        agent = c.in_ok-end.ensures.run.agent ∙ inv.run.agent;
        items_run = runs_then _ _ _ _ _ _ _ _ _ _ tt (λ past. next_items past xs _ start _ left more.lines) inv.run.items_run (done_as _ _ _ _ _ _ _ c.in_ok-end.ensures.run.items_run);
      };
    }

pub returns-in_default-2-clause-rest : goal.returns-in_default-2-clause-rest
returns-in_default-2-clause-rest g c =
    let xs : List ℕ = take c.args.held c.args.buffer.now in
    let start = c.ended.start in
    let inv = c.ended.invariant in
    let left = ap (take (c.args.held - start)) (take_rest c.args.buffer.now start) ∙ front_left c.args.buffer.now start c.args.held inv.high in
    let none = rw left at (rw c.in_default-2.is at c.in_ok-end.ensures.none) in
    (inv.high, sym (the_rest xs start inv.whole none))

pub returns-in_default-2-clause-run : goal.returns-in_default-2-clause-run
returns-in_default-2-clause-run g c =
    let xs : List ℕ = take c.args.held c.args.buffer.now in
    let start = c.ended.start in
    let inv = c.ended.invariant in
    let left = ap (take (c.args.held - start)) (take_rest c.args.buffer.now start) ∙ front_left c.args.buffer.now start c.args.held inv.high in
    let none = rw left at (rw c.in_default-2.is at c.in_ok-end.ensures.none) in
    let all = all_lines xs start inv.whole none ∙ sym (append-nil (pieces (take start xs))) ∙ ap (λ ls. pieces (take start xs) ++ take 1 ls) (sym none) in
    record {
      agent = c.in_ok-end.ensures.run.agent ∙ inv.run.agent;
      items_run = runs_then _ _ _ _ _ _ _ _ _ _ tt (λ past. next_items past xs _ start _ left all) inv.run.items_run (done_as _ _ _ _ _ _ _ c.in_ok-end.ensures.run.items_run);
    }

pub returns-clause-rest : goal.returns-clause-rest
returns-clause-rest g c =
    let xs : List ℕ = take c.args.held c.args.buffer.now in
    let inv = c.ended.invariant in
    let none = none_behind xs c.args.searched c.in-Some.last c.ended.start (rw (front_left c.args.buffer.now c.args.searched c.args.held c.requires.within) at c.in-Some.ensures) c.ended-test.false in
    (inv.high, sym (the_rest xs c.ended.start inv.whole none))

pub returns-clause-run : goal.returns-clause-run
returns-clause-run g c =
    let xs : List ℕ = take c.args.held c.args.buffer.now in
    let inv = c.ended.invariant in
    let none = none_behind xs c.args.searched c.in-Some.last c.ended.start (rw (front_left c.args.buffer.now c.args.searched c.args.held c.requires.within) at c.in-Some.ensures) c.ended-test.false in
    rw (all_lines xs c.ended.start inv.whole none) record { agent = inv.run.agent; items_run = done_as _ _ _ _ _ _ _ inv.run.items_run }
