use Rattle.lldp_pdu.proofs.CapsSpelled.{caps_are_spelled, spelled_are_caps}
use Rattle.lldp_pdu.proofs.laws.capabilities_are_spelled.Goals as goal

pub returns : goal.returns
returns c = λ body caps octets. (caps_are_spelled body caps octets, spelled_are_caps body caps)
