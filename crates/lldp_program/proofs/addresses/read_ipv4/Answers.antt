use Rattle.std.proofs.Common.{rules}
use Rattle.lldp_program.proofs.Words.Addresses.{not_address}
use Rattle.lldp_program.proofs.addresses.read_ipv4.Goals as goal

pub returns-in_err-address : goal.returns-in_err-address
returns-in_err-address c = rw c.from_residual.ensures (λ octets is. not_address _ octets c.parse.result c.parse.ensures.value (search rules) is)
