use Rattle.std.proofs.Common.{arith, sym, ap, ◌∙◌, length}
use Rattle.lldp_text.specs.Capabilities.{is_set, capability_text}
use Rattle.lldp_text.proofs.CapabilitiesWritten.{one_set, one_unset}
use Rattle.lldp_text.proofs.capabilities.write_capabilities.Goals as goal
use Rattle.lldp_text.proofs.capabilities.write_capabilities.Goals.{then-has_bit, else-has_bit}

pub loop-bit-preserved : goal.loop-bit-preserved
loop-bit-preserved g c =
    let held = g.L.Append.held in
    let p = is_set c.args.caps.available in
    let f = capability_text c.args.caps in
    let bit = c.loop-bit.bit in
    let old = held c.args.line.now in
    elim c.if-has_bit.branch [
      | then-has_bit w ↦ (
        one_set p f old (held c.loop-bit.line) (held w.write_separator.new.line) (held c.if-has_bit.line) c.loop-bit.written c.if-has_bit.written bit c.loop-bit-test.true (sym w.if-has_bit.ensures) c.loop-bit.invariant.0 w.write_separator.ensures.value (ap held w.line-is ∙ w.write_capability.ensures.value) w.written-is,
        omega (arith, ap (λ x. length (held x)) w.line-is),
        omega arith,
      )
      | else-has_bit w ↦ (
        one_unset p f old (held c.loop-bit.line) (held c.if-has_bit.line) c.loop-bit.written c.if-has_bit.written bit c.loop-bit-test.true (sym w.if-has_bit.ensures) c.loop-bit.invariant.0 (ap held w.line-is) w.written-is,
        omega (arith, ap (λ x. length (held x)) w.line-is),
        omega arith,
      )
    ]
