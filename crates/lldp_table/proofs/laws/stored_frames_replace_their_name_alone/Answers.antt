use Rattle.lldp_table.proofs.Live.Calls.{learn_held, learn_others}
use Rattle.lldp_table.proofs.laws.stored_frames_replace_their_name_alone.Goals as goal

pub returns-clause-held : goal.returns-clause-held
returns-clause-held c = λ opened calls name ttl octets neighbor. learn_held opened calls name ttl octets neighbor

pub returns-clause-others : goal.returns-clause-others
returns-clause-others c = learn_others
