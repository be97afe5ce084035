-- The lines counted and the TLVs that remain are all lines of the neighbor.
use Rattle.std.proofs.Common.{◌≡◌, ◌+◌, length}
use Rattle.lldp_pdu.specs.Kept.{kept_of}
use Rattle.lldp_engine.proofs.show.cursor.count_lines.Given as goal

abbrev pub invariant-loop-tlv : goal.invariant-loop-tlv
invariant-loop-tlv l = l.lines + length l._tlv-iterator ≡ 4 + length (kept_of l.neighbor.octets)
