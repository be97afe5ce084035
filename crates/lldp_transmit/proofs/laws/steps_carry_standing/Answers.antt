use Rattle.lldp_transmit.proofs.Standing.{carries, marks}
use Rattle.lldp_transmit.proofs.laws.steps_carry_standing.Goals as goal

pub returns : goal.returns
returns c = record { stands = carries; mark = marks }
