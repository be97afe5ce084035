use Rattle.lldp_pdu.proofs.Addresses.{address_is_spelled, spelled_is_address}
use Rattle.lldp_pdu.specs.View.{address_view}
use Rattle.lldp_pdu.proofs.laws.management_addresses_are_spelled.Goals as goal

pub returns-clause-spelled : goal.returns-clause-spelled
returns-clause-spelled c = λ body address octets. (address_is_spelled body address octets, spelled_is_address body address)

pub returns-clause-given : goal.returns-clause-given
returns-clause-given c = λ body given octets h. (address_is_spelled body (address_view given) octets h).octets
