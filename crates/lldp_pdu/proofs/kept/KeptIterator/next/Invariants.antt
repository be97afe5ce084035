use Rattle.std.proofs.Common.{◌≡◌, length}
use Rattle.lldp_pdu.specs.Cut.{cut}
use Rattle.lldp_pdu.specs.Code.Seen.{kept_seen}
use Rattle.lldp_pdu.proofs.kept.KeptIterator.next.Given as goal

-- no kept TLV was skipped: those still to be returned are the same as when `next` was called
abbrev pub invariant-loop-tlv : goal.invariant-loop-tlv
invariant-loop-tlv l = kept_seen l.self-inside.seen.types (cut l.self-inside.tlvs).tlvs ≡ kept_seen l.initial.self-inside.seen.types (cut l.initial.self-inside.tlvs).tlvs

abbrev pub decreases-loop-tlv : goal.decreases-loop-tlv
decreases-loop-tlv l = length (cut l.self-inside.tlvs).tlvs
