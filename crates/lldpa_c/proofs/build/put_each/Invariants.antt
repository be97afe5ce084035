use Rattle.std.proofs.Common.{◌≡◌, ℕ, ◌<◌, length, map, drop, get_or}
use Rattle.lldpa_c.specs.Building.{tlv_of, put_all, put_faults}
use Rattle.lldpa_c.proofs.build.put_each.Given as goal

-- Putting the remaining TLVs into the draft so far gives the same result as putting all TLVs. The
-- faults so far are written. Elements of `faults` beyond the number of TLVs are unchanged.
abbrev pub invariant-loop-i : goal.invariant-loop-i
invariant-loop-i l =
    (put_all l.builder (drop l.i (map tlv_of l.tlvs)) ≡ put_all l.initial.builder (map tlv_of l.tlvs))
    × (put_faults l.builder (drop l.i (map tlv_of l.tlvs)) ≡ drop l.i (put_faults l.initial.builder (map tlv_of l.tlvs)))
    × ((k : ℕ) → k < l.i → get_or l.faults k 0 ≡ get_or (put_faults l.initial.builder (map tlv_of l.tlvs)) k 0)
    × (drop (length l.tlvs) l.faults ≡ drop (length l.tlvs) l.initial.faults)
