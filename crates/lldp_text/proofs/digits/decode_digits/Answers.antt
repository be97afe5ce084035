use Rattle.std.proofs.Common.{◌-◌, ◌∙◌, length, arith, ap, sym, Ok, inl, inr, refl}
use Rattle.std.proofs.lemmas.Bool.{cases_lt}
use Rattle.lldp_text.proofs.DigitBlocks.{all_read, block_read, digits_of_ok}
use Rattle.lldp_text.proofs.digits.decode_digits.Goals as goal

pub returns-then-decode_front-last-clause-answer : goal.returns-then-decode_front-last-clause-answer
returns-then-decode_front-last-clause-answer c =
    let front = c.decode_front.ensures in (
      λ yes. cc yes,
      λ ok. absurd (omega (arith, front.far (digits_of_ok c.args.digits.now ok.1) (omega (arith, front.len, c.requires)), front.len, c.if-decode_front-last.true)),
    )

pub returns-clause-octets : goal.returns-clause-octets
returns-clause-octets c = λ ok.
    let small = c.are_small.ensures.0 ok in
    let front = c.decode_front.ensures in
    let block = c.decode_block.ensures in
    all_read c.args.digits.now c.decode_block.new.octets (omega (arith, block.len, front.len)) (λ i h.
    elim (cases_lt i (length c.args.octets.now - 16)) [
      | inl l ↦ front.pairs i (omega (arith, c.if-decode_front-last.false)) ∙ ap Ok (sym (block.rest i l))
      | inr g ↦
          block_read c.args.digits.now c.decode_block.new.octets c.decode_block.result (length c.args.octets.now - 16) 32 block.pairs (λ k below. small k) i g (omega (arith, block.len, front.len, c.if-octets-lt-BLOCK.false)) (omega (arith, block.len, front.len, c.if-octets-lt-BLOCK.false))
    ])

pub returns-clause-answer : goal.returns-clause-answer
returns-clause-answer c = (
  λ yes. (c.if-octets-lt-BLOCK.false, rw (returns-clause-octets c yes) refl),
  λ ok. c.are_small.ensures.1 (c.decode_block.ensures.small (digits_of_ok c.args.digits.now ok.1)),
)
