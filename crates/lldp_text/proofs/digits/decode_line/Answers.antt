use Rattle.lldp_text.proofs.DigitBlocks.{front_read}
use Rattle.lldp_text.proofs.digits.decode_line.Goals as goal

pub returns-then-text-count-eq10-clause-octets : goal.returns-then-text-count-eq10-clause-octets
returns-then-text-count-eq10-clause-octets c =
    let front = c.decode_front-count.ensures in
    front_read c.args.text.now c.decode_front-count.new.octets c.decode_front-count.result front.within front.room front.pairs
