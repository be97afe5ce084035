use Rattle.lldp_text.proofs.Lanes.{before_mask}
use Rattle.lldp_text.proofs.digits.leading.Goals as goal

pub returns-clause-small : goal.returns-clause-small
returns-clause-small c = before_mask 16 c.args.values c.min.result c.fits-values.0 c.min.ensures
