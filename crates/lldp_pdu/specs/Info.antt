-- The contents of a sound LLDPDU with a TTL above 0.
use Rattle.std.specs.Prelude.{◌≡◌, ℕ, ◌+◌, ◌*◌, ◌<◌, ◌≤◌, List, length, None}
use Rattle.std.specs.List.{AllByRecursion}
use Rattle.lldp_pdu.specs.Tlv.{TlvUnit, AreOctets}
use Rattle.lldp_pdu.specs.Msap.{MsapId, IsIdentifier}
use Rattle.lldp_pdu.specs.Lldpdu.{extent, ttl_of, msap_of}
use Rattle.lldp_pdu.specs.Fault.{fault_of}
use Rattle.lldp_pdu.specs.Kept.{kept_of, discarded_of, count_unrecognized, IsKeptTlv}

-- the MSAP identifier, TTL, extent and kept TLVs, then the number of discarded TLVs and the number
-- of unrecognized kept TLVs
pub record LldpInfo : Type 0 where
  pub msap : MsapId
  pub ttl : ℕ
  pub octets : List ℕ
  pub kept : List TlvUnit
  pub discarded : ℕ
  pub unrecognized : ℕ

-- the contents of these octets
abbrev pub info_of : List ℕ → LldpInfo
info_of octets =
    record {
      msap = msap_of octets;
      ttl = ttl_of octets;
      octets = extent octets;
      kept = kept_of octets;
      discarded = discarded_of octets;
      unrecognized = count_unrecognized (kept_of octets);
    }

-- The TTL is above 0, and the lengths and types are in range. A mandatory TLV has at least 4 octets
-- and any other TLV at least 2, which bounds the numbers of TLVs.
pub record IsInfo (info : LldpInfo) : Type 0 where
  pub lives : 0 < info.ttl
  pub chassis : IsIdentifier info.msap.chassis
  pub port : IsIdentifier info.msap.port
  pub kept : AllByRecursion IsKeptTlv info.kept
  pub few : 12 + 2 * length info.kept ≤ length info.octets
  pub few_discarded : 10 + 2 * info.discarded ≤ length info.octets
  pub few_unrecognized : info.unrecognized ≤ length info.kept

-- The extent is a sound LLDPDU with the same contents, except that fewer TLVs may be discarded.
pub record TellsItself (info : LldpInfo) : Type 0 where
  pub are_octets : AreOctets info.octets
  pub sound : fault_of info.octets ≡ None
  pub msap : msap_of info.octets ≡ info.msap
  pub ttl : ttl_of info.octets ≡ info.ttl
  pub extent : extent info.octets ≡ info.octets
  pub kept : kept_of info.octets ≡ info.kept
  pub unrecognized : count_unrecognized info.kept ≡ info.unrecognized
  pub discarded : discarded_of info.octets ≤ info.discarded
