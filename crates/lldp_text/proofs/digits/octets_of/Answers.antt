use Rattle.std.proofs.Common.{refl}
use Rattle.lldp_text.proofs.Lanes.{octet_at}
use Rattle.lldp_text.proofs.digits.octets_of.Goals as goal

pub returns-clause-pairs : goal.returns-clause-pairs
returns-clause-pairs c = octet_at _ c.args.values c.fits-values.0 c.fits-values.1 refl
