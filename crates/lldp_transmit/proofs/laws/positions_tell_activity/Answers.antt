use Rattle.lldp_transmit.proofs.Activity.{active_reads, rested_reads, start_reads, stop_reads}
use Rattle.lldp_transmit.proofs.laws.positions_tell_activity.Goals as goal

pub returns : goal.returns
returns c = record { active = active_reads; rested = rested_reads; start = start_reads; stop = stop_reads }
