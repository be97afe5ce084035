-- The extents of learned frames can be stored.
use Rattle.std.proofs.Common.{◌≡◌, ℕ, ◌+◌, ◌*◌, ◌<◌, ◌≤◌, List, length, length-append, None, ap, arith}
use Rattle.lldp_pdu.specs.Tlv.{AreOctets}
use Rattle.lldp_pdu.specs.Lldpdu.{extent, ttl_of, msap_of}
use Rattle.lldp_pdu.specs.Fault.{fault_of}
use Rattle.lldp_pdu.specs.Kept.{kept_of}
use Rattle.lldp_pdu.specs.Info.{LldpInfo, info_of, TellsItself}
use Rattle.lldp_pdu.proofs.Telling.{tells_itself}
use Rattle.lldp_pdu.proofs.Whole.{extent_front}
use Rattle.lldp_table.specs.Events.{Neighbor}
use Rattle.lldp_table.specs.Contents.{IsExtent, IsHeld}
use Rattle.std.proofs.lemmas.Grind.{common_steps}

-- the octets of an `Info` can be stored
pub info_is_extent : (info : LldpInfo) → TellsItself info → 0 < info.ttl → length info.octets ≤ 1500 → IsExtent info.msap info.ttl info.octets
info_is_extent info t l s = grind (arith, common_steps, tells_itself)

-- an LLDPDU is no shorter than its extent
extent_within : (pdu : List ℕ) → AreOctets pdu → length (extent pdu) ≤ length pdu
extent_within pdu o = let front = extent_front pdu o in omega (arith, length-append (extent pdu) front.0, ap length front.1)

-- the extent of a sound LLDPDU of at most 1,500 octets can be stored
pub lldpdu_is_extent : (pdu : List ℕ) → AreOctets pdu → fault_of pdu ≡ None → 0 < ttl_of pdu → length pdu ≤ 1500 → IsExtent (msap_of pdu) (ttl_of pdu) (extent pdu)
lldpdu_is_extent pdu o f l s = info_is_extent (info_of pdu) (tells_itself pdu o f l).1 l (omega (arith, extent_within pdu o))

-- a held extent has at least 12 octets plus two for each kept TLV
pub kept_is_short : (neighbor : Neighbor) → IsHeld neighbor → 12 + 2 * length (kept_of neighbor.octets) ≤ length neighbor.octets
kept_is_short neighbor h = grind (arith, common_steps, tells_itself)
