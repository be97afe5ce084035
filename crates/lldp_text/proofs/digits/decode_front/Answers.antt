use Rattle.std.proofs.Common.{◌≡◌, ◌∙◌, true, Ok, ap, sym, arith, inl, inr}
use Rattle.std.proofs.lemmas.Bool.{cases_lt}
use Rattle.std.proofs.lemmas.Grind.{common_steps}
use Rattle.lldp_text.proofs.DigitBlocks.{block_read}
use Rattle.lldp_text.proofs.digits.decode_front.Goals as goal

pub returns-then-not-are_small-clause-pairs : goal.returns-then-not-are_small-clause-pairs
returns-then-not-are_small-clause-pairs c i h =
    let block = c.decode_block-values.ensures in
    elim (cases_lt i c.blocks-2.at) [
      | inl l ↦ c.blocks-2.invariant.pairs i l ∙ ap Ok (sym (block.rest i l))
      | inr g ↦
          block_read c.args.text.now c.decode_block-values.new.octets c.decode_block-values.result c.blocks-2.at c.leading.result block.pairs c.leading.ensures.small i g (omega (arith, c.leading.ensures.most)) (omega arith)
    ]

pub blocks-2-preserved : goal.blocks-2-preserved
blocks-2-preserved c =
    let block = c.decode_block-values.ensures in
    let yes : c.are_small.result ≡ true = grind (arith, common_steps) in
    let small = c.are_small.ensures.0 yes in
    record {
      len = block.len ∙ c.blocks-2.invariant.len;
      within = omega (arith, c.blocks-2-test.true);
      pairs = λ i h.
          elim (cases_lt i c.blocks-2.at) [
            | inl l ↦ c.blocks-2.invariant.pairs i l ∙ ap Ok (sym (block.rest i l))
            | inr g ↦
                block_read c.args.text.now c.decode_block-values.new.octets c.decode_block-values.result c.blocks-2.at 32 block.pairs (λ k below. small k) i g h (omega arith)
          ];
    }
