use Rattle.lldp_engine.proofs.Headline.Promise.{have_sent_exactly}
use Rattle.lldp_engine.proofs.laws.standing_agents_have_sent_exactly.Goals as goal

pub returns : goal.returns
returns c = have_sent_exactly
