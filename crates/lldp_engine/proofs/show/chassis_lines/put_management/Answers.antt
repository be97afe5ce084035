use Rattle.lldp_engine.proofs.Lines.Taken.{takes_none, takes_line}
use Rattle.lldp_engine.proofs.show.chassis_lines.put_management.Goals as goal

pub returns-in-Some : goal.returns-in-Some
returns-in-Some g c = rw c.in-Some.is (takes_line _ _ _ _ _ _ c.put_line.ensures (takes_none _ _))

pub returns-in_default : goal.returns-in_default
returns-in_default g c = rw c.in_default.is (takes_none _ _)
