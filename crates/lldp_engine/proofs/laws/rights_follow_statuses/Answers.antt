use Rattle.lldp_engine.proofs.OnePort.Rights.{follows_status}
use Rattle.lldp_engine.proofs.laws.rights_follow_statuses.Goals as goal

pub returns : goal.returns
returns c = follows_status
