use Rattle.std.proofs.Common.{ℕ, List, arith}
use Rattle.lldp_pdu.specs.Msap.{MsapId}
use Rattle.lldp_text.proofs.ReadBack.{escaped_apart}
use Rattle.lldp_text.proofs.IdentifiersBack.{chassis_apart, ports_apart}
use Rattle.lldp_text.proofs.laws.alike.neighbors_are_never_shown_alike.Goals as goal
use Rattle.std.proofs.lemmas.Grind.{common_steps}

named : List ℕ → List ℕ → MsapId
named chassis port = record { chassis = chassis; port = port }

pub returns-clause-texts : goal.returns-clause-texts
returns-clause-texts c = λ one other h k _ _ e. escaped_apart one other h k e

pub returns-clause-chassis : goal.returns-clause-chassis
returns-clause-chassis c = chassis_apart

pub returns-clause-ports : goal.returns-clause-ports
returns-clause-ports c = ports_apart

pub returns-clause-neighbors : goal.returns-clause-neighbors
unfolding named
returns-clause-neighbors c = grind (arith, common_steps, chassis_apart, ports_apart)
