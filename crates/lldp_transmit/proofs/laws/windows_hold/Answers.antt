use Rattle.lldp_transmit.proofs.Answered.{windows_hold}
use Rattle.lldp_transmit.proofs.laws.windows_hold.Goals as goal

pub returns : goal.returns
returns c = windows_hold
