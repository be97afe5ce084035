use Rattle.std.proofs.Common.{◌≡◌, slice_get}
use Rattle.lldp_pdu.specs.Kept.{kept_of}
use Rattle.lldpa_c.specs.Walk.{left_of}
use Rattle.lldpa_c.proofs.callers.reading.kept_at.Given as goal

-- of the TLVs that are left, the one that is sought has this number
abbrev pub invariant-loop-walk : goal.invariant-loop-walk
invariant-loop-walk l = slice_get (left_of l.octets l.walk) l.left ≡ slice_get (kept_of l.octets) l.n

abbrev pub decreases-loop-walk : goal.decreases-loop-walk
decreases-loop-walk l = l.left
