use Rattle.std.proofs.Common.{◌≡◌, ◌+◌, ◌-◌, ◌<◌, length, take, None, refl, sym, ◌∙◌, subst, arith}
use Rattle.std.specs.List.{list_any}
use Rattle.std.proofs.lemmas.Result.{err_from_is_err_and}
use Rattle.std.proofs.lemmas.List.{length-take}
use Rattle.lldp_pdu.specs.Cut.{cut}
use Rattle.lldp_pdu.specs.Info.{LldpInfo, IsInfo, TellsItself}
use Rattle.lldp_pdu.specs.Fault.{fault_of, is_mandatory}
use Rattle.lldp_pdu.specs.Lldpdu.{ttl_of, before_end}
use Rattle.lldp_pdu.specs.View.{msap_view}
use Rattle.lldp_pdu.proofs.Cuts.{AreOctets-from_index}
use Rattle.lldp_pdu.proofs.Telling.{tells_itself}
use Rattle.lldp_pdu.proofs.Whole.{ttl_is, msap_is, last_check, stands, tells}
use Rattle.lldp_pdu.proofs.examination.examine.Goals as goal
use Rattle.std.proofs.lemmas.Grind.{common_steps}

pub returns-then-mandatory-eq0-clause-answer : goal.returns-then-mandatory-eq0-clause-answer
returns-then-mandatory-eq0-clause-answer c = grind (arith, common_steps, ttl_is, msap_is)

pub returns-in_err-found-clause-fault : goal.returns-in_err-found-clause-fault
returns-in_err-found-clause-fault c =
    let p = err_from_is_err_and c.from_residual-in_err-found.result c.from_residual-in_err-found.ensures.1 in
    let last = last_check _ _ _ _ c.in_ok-mandatory.ensures.ok (list_any is_mandatory (before_end (cut c.in_ok-mandatory.mandatory.after.now).tlvs)) (omega (arith, c.if-mandatory-eq0.false)) refl in
    rw (p.1, p.2) (c.in_err-found.ensures.repeated ∙ sym last)

pub slice_bounds-result-end : goal.slice_bounds-result-end
slice_bounds-result-end c =
    let st = stands c.args.pdu.now c.in_ok-mandatory.mandatory.after.now c.in_ok-found.found.octets.now (msap_view c.in_ok-mandatory.mandatory.msap) c.in_ok-mandatory.mandatory.ttl c.in_ok-found.found.discarded c.in_ok-found.found.unrecognized (λ i. omega (arith, c.type_inv.pdu i)) c.in_ok-mandatory.ensures.ok c.in_ok-found.ensures.ok in
    omega (arith, st.end, length-take (length c.args.pdu.now - length c.in_ok-mandatory.mandatory.after.now + length c.in_ok-found.found.octets.now) c.args.pdu.now)

sound : (c : goal.After-result-3-1) → None ≡ fault_of c.args.pdu.now
sound c = grind (arith, common_steps, last_check)

lives : (c : goal.After-result-3-1) → 0 < ttl_of c.args.pdu.now
lives c = rw (ttl_is _ _ _ _ c.in_ok-mandatory.ensures.ok) (omega (arith, c.if-mandatory-eq0.false))

pub invariant_of-result : goal.invariant_of-result
invariant_of-result c =
    let t = tells c.args.pdu.now c.in_ok-mandatory.mandatory.after.now c.in_ok-found.found.octets.now (take (length c.args.pdu.now - length c.in_ok-mandatory.mandatory.after.now + length c.in_ok-found.found.octets.now) c.args.pdu.now) (msap_view c.in_ok-mandatory.mandatory.msap) c.in_ok-mandatory.mandatory.ttl c.in_ok-found.found.discarded c.in_ok-found.found.unrecognized (λ i. omega (arith, c.type_inv.pdu i)) c.in_ok-mandatory.ensures.ok c.in_ok-found.ensures.ok refl in
    subst (λ (i : LldpInfo). IsInfo i × TellsItself i) (sym t) (tells_itself c.args.pdu.now (AreOctets-from_index c.args.pdu.now (λ i. omega (arith, c.type_inv.pdu i))) (sym (sound c)) (lives c))

pub returns-clause-fault : goal.returns-clause-fault
returns-clause-fault c = sound c

pub returns-clause-answer : goal.returns-clause-answer
returns-clause-answer c =
    let t = tells c.args.pdu.now c.in_ok-mandatory.mandatory.after.now c.in_ok-found.found.octets.now (take (length c.args.pdu.now - length c.in_ok-mandatory.mandatory.after.now + length c.in_ok-found.found.octets.now) c.args.pdu.now) (msap_view c.in_ok-mandatory.mandatory.msap) c.in_ok-mandatory.mandatory.ttl c.in_ok-found.found.discarded c.in_ok-found.found.unrecognized (λ i. omega (arith, c.type_inv.pdu i)) c.in_ok-mandatory.ensures.ok c.in_ok-found.ensures.ok refl in
    (lives c, t)
