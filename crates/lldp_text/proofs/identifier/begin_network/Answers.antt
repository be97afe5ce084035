use Rattle.std.proofs.Common.{arith}
use Rattle.lldp_text.proofs.TextJoined.{nothing_more}
use Rattle.lldp_text.proofs.identifier.begin_network.Goals as goal
use Rattle.std.proofs.lemmas.Grind.{common_steps}

pub returns-in-Ipv4-clause-value : goal.returns-in-Ipv4-clause-value
returns-in-Ipv4-clause-value g c = grind (arith, common_steps, nothing_more)

pub returns-in-Ipv6-clause-value : goal.returns-in-Ipv6-clause-value
returns-in-Ipv6-clause-value g c = grind (arith, common_steps, nothing_more)
