use Rattle.lldp_transmit.proofs.Sending.{waiting_reads, due_reads, chosen_due_reads, open_reads, credit_reads, least_once, sent_reads}
use Rattle.lldp_transmit.proofs.laws.positions_tell_sending.Goals as goal

pub returns : goal.returns
returns c = record {
  waiting = waiting_reads;
  due = due_reads;
  chosen = chosen_due_reads;
  «open» = λ s past m r. open_reads s past m r.some_credit;
  credit = λ s h r. credit_reads s h r.some_credit;
  one_credit = least_once;
  sent = λ s h e r. sent_reads s h e r.some_credit;
}
