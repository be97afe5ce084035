use Rattle.lldp_program.proofs.ForLaws.Served.{serves_all}
use Rattle.lldp_program.proofs.laws.serving.all_connections_are_served.Goals as goal

pub returns : goal.returns
returns g c = serves_all _ _
