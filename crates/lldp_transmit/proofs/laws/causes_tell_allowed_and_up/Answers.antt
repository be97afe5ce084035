use Rattle.lldp_transmit.proofs.Causes.{allowed_reads, up_reads}
use Rattle.lldp_transmit.proofs.laws.causes_tell_allowed_and_up.Goals as goal

pub returns : goal.returns
returns c = record { allowed = allowed_reads; up = up_reads }
