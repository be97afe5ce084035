use Rattle.lldp_transmit.proofs.Causes.{ordinary_reads}
use Rattle.lldp_transmit.proofs.laws.ordinary_frames_go_on_active_ports.Goals as goal

pub returns : goal.returns
returns c = ordinary_reads
