use Rattle.lldp_transmit.proofs.Signals.{signal_reads, opening_reads, left_reads, distance_reads, timer_reads}
use Rattle.lldp_transmit.proofs.laws.positions_tell_signals.Goals as goal

pub returns : goal.returns
returns c = record {
  signal = signal_reads;
  opening = opening_reads;
  left = left_reads;
  distance = distance_reads;
  timer = timer_reads;
}
