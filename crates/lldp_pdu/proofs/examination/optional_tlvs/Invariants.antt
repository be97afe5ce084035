use Rattle.std.proofs.Common.{length}
use Rattle.lldp_pdu.specs.Cut.{cut}
use Rattle.lldp_pdu.proofs.Surveying.{Surveys}
use Rattle.lldp_pdu.proofs.examination.optional_tlvs.Given as goal

abbrev pub invariant-loop-tlv : goal.invariant-loop-tlv
invariant-loop-tlv l = Surveys l.after l.tlvs l.seen.types l.len l.discarded l.unrecognized

abbrev pub decreases-loop-tlv : goal.decreases-loop-tlv
decreases-loop-tlv l = length (cut l.tlvs).tlvs
