use Rattle.lldp_engine.proofs.ForLaws.Shows.{shown_as_sent}
use Rattle.lldp_engine.proofs.laws.fixed.roles_are_shown_as_sent.Goals as goal

pub returns : goal.returns
returns c = shown_as_sent
