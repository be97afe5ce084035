use Rattle.std.proofs.Common.{◌≡◌, length}
use Rattle.lldp_pdu.specs.Cut.{cut}
use Rattle.lldp_pdu.specs.Code.Seen.{kept_seen}
use Rattle.lldpa_c.specs.Place.{EndsWith}
use Rattle.lldpa_c.proofs.kept.first_kept.Given as goal

-- none of the TLVs so far is kept
abbrev pub invariant-loop-tlv : goal.invariant-loop-tlv
invariant-loop-tlv l =
    (kept_seen l.seen.types (cut l.tlvs).tlvs ≡ kept_seen l.initial.seen.types (cut l.initial.tlvs).tlvs)
    × EndsWith l.octets l.tlvs

abbrev pub decreases-loop-tlv : goal.decreases-loop-tlv
decreases-loop-tlv l = length (cut l.tlvs).tlvs
