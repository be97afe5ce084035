use Rattle.lldp_text.proofs.Lanes.{no_upper_bits}
use Rattle.lldp_text.proofs.digits.are_small.Goals as goal

pub returns : goal.returns
returns c = no_upper_bits c.args.values c.fits-values.0 c.fits-values.1
