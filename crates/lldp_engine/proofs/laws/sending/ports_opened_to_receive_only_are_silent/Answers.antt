use Rattle.lldp_engine.proofs.ForLaws.Silent.{receive_only_is_silent}
use Rattle.lldp_engine.proofs.laws.sending.ports_opened_to_receive_only_are_silent.Goals as goal

pub returns : goal.returns
returns c = receive_only_is_silent
