use Rattle.lldp_transmit.proofs.Causes.{shutdown_reads}
use Rattle.lldp_transmit.proofs.laws.shutdown_frames_go_at_stops.Goals as goal

pub returns : goal.returns
returns c = shutdown_reads
