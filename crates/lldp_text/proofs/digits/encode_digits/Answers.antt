use Rattle.std.proofs.Common.{◌-◌, ◌*◌, ◌+◌, ◌∙◌, length, arith, inl, inr}
use Rattle.std.proofs.lemmas.Bool.{cases_lt}
use Rattle.lldp_text.proofs.DigitBlocks.{all_written}
use Rattle.lldp_text.proofs.digits.encode_digits.Goals as goal

pub returns : goal.returns
returns c =
    let block = c.encode_block-2.ensures in
    let len = c.blocks-2.invariant.0 in
    let stop = c.blocks-2-test.false in
    all_written c.args.octets.now c.encode_block-2.new.digits (omega (arith, block.len, len)) (λ i h.
    elim (cases_lt i (length c.args.octets.now - 16)) [
      | inl l ↦
          let was = c.blocks-2.invariant.2 i (omega (arith, stop)) in
          (block.rest (2 * i) (omega arith) ∙ was.0, block.rest (2 * i + 1) (omega arith) ∙ was.1)
      | inr g ↦ block.pairs i (omega (arith, g)) (omega arith)
    ])
