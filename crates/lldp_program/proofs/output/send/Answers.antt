use Rattle.std.proofs.Common.{arith, rules, sym}
use Rattle.std.proofs.lemmas.List.{take_rest}
use Rattle.std.proofs.lemmas.Result.{err_from_is_err_and}
use Rattle.lldp_program.proofs.Texts.Written.{cut_off_at, appends_then, appends_same}
use Rattle.lldp_program.proofs.output.send.Goals as goal
use Rattle.std.proofs.Math.Seq.{take-add}

pub loop-sent-preserved : goal.loop-sent-preserved
loop-sent-preserved g c = record {
  within = search rules;
  sent = appends_same _ _ _ _ (sym (take-add c.loop-sent.sent c.in_ok-sent.field-0 c.args.octets.now)) (appends_then _ _ _ _ _ c.loop-sent.invariant.sent (rw take_rest at c.in_ok-sent.ensures.octets));
  failures = search rules;
  place = search rules;
}

pub returns-in_err-sent-clause-written : goal.returns-in_err-sent-clause-written
returns-in_err-sent-clause-written g c =
    let p = err_from_is_err_and c.from_residual.result c.from_residual.ensures.1 in
    rw p.1 (cut_off_at _ _ _ c.args.octets.now c.loop-sent.sent (omega arith) c.loop-sent.invariant.sent c.in_err-sent.ensures.octets)
