-- The two steps in which the code examines an LLDPDU: the mandatory TLVs, and those after them.
use Rattle.std.specs.Prelude.{◌≡◌, ℕ, ◌+◌, ◌&&◌, List, [], ◌∷◌, drop, Some, None, nat_lt, if◌then◌else◌, Bool}
use Rattle.std.specs.List.{list_any}
use Rattle.lldp_pdu.specs.declared.fault.PduFault.TheVariants.{Repeated}
use Rattle.lldp_pdu.specs.Tlv.{TlvUnit, spellings}
use Rattle.lldp_pdu.specs.TlvType.{chassis_id_type, port_id_type, time_to_live_type}
use Rattle.lldp_pdu.specs.Cut.{cut}
use Rattle.lldp_pdu.specs.Msap.{MsapId}
use Rattle.lldp_pdu.specs.Lldpdu.{seconds, before_end, ended_incomplete, later_tlvs}
use Rattle.lldp_pdu.specs.Kept.{count_unrecognized}
use Rattle.lldp_pdu.specs.Fault.{is_mandatory, fault_of}
use Rattle.lldp_pdu.specs.Code.Seen.{none_seen, is_kept_seen, seen_after, kept_seen}

-- The octets begin with the three mandatory TLVs, which are valid and have this MSAP identifier and
-- this TTL. `after` is the octets after these TLVs.
pub record OpensWith (octets : List ℕ) (msap : MsapId) (ttl : ℕ) (after : List ℕ) : Type 0 where
  pub body : List ℕ
  pub seconds_are : seconds body ≡ ttl
  pub parts : cut octets ≡ record {
    tlvs =
        record { kind = chassis_id_type; body = msap.chassis }
        ∷ record { kind = port_id_type; body = msap.port }
        ∷ record { kind = time_to_live_type; body = body }
        ∷ (cut after).tlvs;
    rest = (cut after).rest;
  }
  pub behind : (n : ℕ) × (after ≡ drop n octets)
  pub fault : fault_of octets
      ≡ (if nat_lt 0 ttl && list_any is_mandatory (later_tlvs octets) then Some Repeated else None)

-- the number of these TLVs that are not kept, starting with these flags
abbrev pub count_lost : List Bool → List TlvUnit → ℕ
count_lost seen [] = 0
count_lost seen (u ∷ us) = (if is_kept_seen seen u then 0 else 1) + count_lost (seen_after seen u) us

-- The octets `found` encode the TLVs before the End Of LLDPDU. `lost` is the number of discarded
-- TLVs, and `unknown` is the number of unrecognized ones.
pub record IsSurveyOf (after found : List ℕ) (lost unknown : ℕ) : Type 0 where
  pub octets : found ≡ spellings (before_end (cut after).tlvs)
  pub discarded : lost ≡ count_lost none_seen (before_end (cut after).tlvs) + (if ended_incomplete after then 1 else 0)
  pub unrecognized : unknown ≡ count_unrecognized (kept_seen none_seen (before_end (cut after).tlvs))
