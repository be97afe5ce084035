use Rattle.lldp_text.proofs.TextJoined.{tailed}
use Rattle.lldp_text.proofs.identifier.begin_unhandled.Goals as goal

pub returns-clause-value : goal.returns-clause-value
returns-clause-value g c = tailed _ _ _ _ c.text.ensures
