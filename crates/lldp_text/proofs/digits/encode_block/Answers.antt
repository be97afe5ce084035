use Rattle.std.proofs.Common.{◌∙◌, ap, ◌/◌, ◌^◌, bit_and, ◌+◌, get_or}
use Rattle.std.proofs.lemmas.Simd.{get_or-put_chunk_below, get_or-chunk, length-chunk}
use Rattle.std.specs.Simd.Lanes.{chunk}
use Rattle.lldp_text.proofs.Lanes.{splat_lane, low_bits}
use Rattle.lldp_text.proofs.DigitBlocks.{digits_at}
use Rattle.lldp_text.proofs.digits.encode_block.Goals as goal

pub returns-clause-pairs : goal.returns-clause-pairs
returns-clause-pairs c i from to =
    let octets = c.args.octets.now in
    let at = c.args.at in
    let block = chunk at 16 octets in
    let long = length-chunk at 16 octets c.requires.fits in
    digits_at octets c.args.digits.now _ _ c.digits_of-high.result c.digits_of-low.result c.by_turns.result at i c.requires.digits c.requires.fits c.by_turns.ensures.len
    (λ k h. splat_lane (λ a b. a / 2 ^ b) block 16 4 k long h ∙ ap (λ x. x / 16) (get_or-chunk at 16 octets k 0 h))
    (λ k h. splat_lane bit_and block 16 15 k long h ∙ ap (λ x. bit_and x 15) (get_or-chunk at 16 octets k 0 h) ∙ low_bits (get_or octets (at + k) 0) (c.type_inv.octets (at + k)).fits)
    (λ k. (c.type_inv.octets k).fits) c.digits_of-high.ensures c.digits_of-low.ensures c.by_turns.ensures.turns from to

pub returns-clause-rest : goal.returns-clause-rest
returns-clause-rest c k h = get_or-put_chunk_below _ c.args.digits.now c.by_turns.result k 0 h
