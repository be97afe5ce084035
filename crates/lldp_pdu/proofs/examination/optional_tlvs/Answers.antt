use Rattle.std.proofs.Common.{◌≡◌, ◌+◌, ◌≤◌, cond, ltb, length, ap, ◌∙◌, arith, ℕ}
use Rattle.std.proofs.lemmas.List.{length-take}
use Rattle.std.proofs.lemmas.Bool.{eq-eqb, ne_eqb}
use Rattle.lldp_pdu.specs.View.{tlv_view}
use Rattle.lldp_pdu.proofs.Surveying.{bounds, one_more, survey_at_end, survey_at_rest}
use Rattle.lldp_pdu.proofs.examination.optional_tlvs.Goals as goal
use Rattle.std.proofs.lemmas.Grind.{common_steps}

pub slice_bounds-result-end : goal.slice_bounds-result-end
slice_bounds-result-end c =
    let b = bounds c.args.after.now c.loop-tlv.tlvs c.loop-tlv.seen.types c.loop-tlv.len c.loop-tlv.discarded c.loop-tlv.unrecognized (λ i. omega (arith, c.type_inv.after i)) c.loop-tlv.invariant in
    omega (arith, length-take c.loop-tlv.len c.args.after.now, b.len)

pub returns-then-tlv-eq-END_OF_LLDPDU-clause-ok : goal.returns-then-tlv-eq-END_OF_LLDPDU-clause-ok
returns-then-tlv-eq-END_OF_LLDPDU-clause-ok c =
    survey_at_end c.args.after.now c.loop-tlv.tlvs c.next.new.self c.loop-tlv.seen.types c.loop-tlv.len c.loop-tlv.discarded c.loop-tlv.unrecognized (tlv_view c.in-Some.tlv) (λ i. omega (arith, c.type_inv.after i)) c.loop-tlv.invariant c.in-Some.ensures.steps.0 (eq-eqb _ _ c.if-tlv-eq-END_OF_LLDPDU.true)

pub overflow_add-len-in-Some : goal.overflow_add-len-in-Some
overflow_add-len-in-Some c =
    let b = bounds c.args.after.now c.loop-tlv.tlvs c.loop-tlv.seen.types c.loop-tlv.len c.loop-tlv.discarded c.loop-tlv.unrecognized (λ i. omega (arith, c.type_inv.after i)) c.loop-tlv.invariant in
    omega (arith, one_more c.loop-tlv.tlvs c.next.new.self (tlv_view c.in-Some.tlv) c.in-Some.ensures.steps.0 (ne_eqb _ _ (λ e. omega (arith, e, c.if-tlv-le-TIME_TO_LIVE.false))), b.len)

pub overflow_add-discarded : goal.overflow_add-discarded
overflow_add-discarded c =
    let b = bounds c.args.after.now c.loop-tlv.tlvs c.loop-tlv.seen.types c.loop-tlv.len c.loop-tlv.discarded c.loop-tlv.unrecognized (λ i. omega (arith, c.type_inv.after i)) c.loop-tlv.invariant in
    omega (arith, b.lost)

pub overflow_add-unrecognized : goal.overflow_add-unrecognized
overflow_add-unrecognized c =
    let b = bounds c.args.after.now c.loop-tlv.tlvs c.loop-tlv.seen.types c.loop-tlv.len c.loop-tlv.discarded c.loop-tlv.unrecognized (λ i. omega (arith, c.type_inv.after i)) c.loop-tlv.invariant in
    omega (arith, b.unknown)

pub slice_bounds-result-end-2 : goal.slice_bounds-result-end-2
slice_bounds-result-end-2 c =
    let b = bounds c.args.after.now c.loop-tlv.tlvs c.loop-tlv.seen.types c.loop-tlv.len c.loop-tlv.discarded c.loop-tlv.unrecognized (λ i. omega (arith, c.type_inv.after i)) c.loop-tlv.invariant in
    omega (arith, length-take c.loop-tlv.len c.args.after.now, b.len)

at_most_one : (n k : ℕ) → k ≡ cond (ltb 0 n) 1 0 → k ≤ 1
at_most_one n k h = grind (arith, common_steps)

pub overflow_add-result : goal.overflow_add-result
overflow_add-result c =
    let b = bounds c.args.after.now c.loop-tlv.tlvs c.loop-tlv.seen.types c.loop-tlv.len c.loop-tlv.discarded c.loop-tlv.unrecognized (λ i. omega (arith, c.type_inv.after i)) c.loop-tlv.invariant in
    omega (arith, b.lost, at_most_one (length c.rest.result.now) c.incomplete_tlvs.result c.incomplete_tlvs.ensures)

pub returns-clause-ok : goal.returns-clause-ok
returns-clause-ok c =
    let same : length c.rest.result.now ≡ length c.loop-tlv.tlvs = ap length (c.rest.ensures ∙ c.in_default.ensures.steps.1) in
    survey_at_rest c.args.after.now c.loop-tlv.tlvs c.loop-tlv.seen.types c.loop-tlv.len c.loop-tlv.discarded c.loop-tlv.unrecognized (c.loop-tlv.discarded + c.incomplete_tlvs.result) (λ i. omega (arith, c.type_inv.after i)) c.loop-tlv.invariant c.in_default.ensures.steps.0
    (ap (λ (n : ℕ). c.loop-tlv.discarded + n) (c.incomplete_tlvs.ensures ∙ ap (λ (n : ℕ). cond (ltb 0 n) 1 0) same))
