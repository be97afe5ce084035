use Rattle.std.proofs.lemmas.Simd.{get_or-put_chunk_below}
use Rattle.lldp_text.proofs.DigitBlocks.{pair_at, block_small}
use Rattle.lldp_text.proofs.digits.decode_block.Goals as goal

pub returns-clause-pairs : goal.returns-clause-pairs
returns-clause-pairs c k =
    pair_at c.args.digits.now c.args.octets.now c.values_of-values.result c.octets_of.result c.args.at k c.requires.fits c.octets_of.ensures.len c.values_of-values.ensures.values c.octets_of.ensures.pairs

pub returns-clause-rest : goal.returns-clause-rest
returns-clause-rest c i h = get_or-put_chunk_below c.args.at c.args.octets.now c.octets_of.result i 0 h

pub returns-clause-small : goal.returns-clause-small
returns-clause-small c digits = block_small c.args.digits.now c.values_of-values.result c.args.at c.values_of-values.ensures.len c.requires.digits digits c.values_of-values.ensures.values
