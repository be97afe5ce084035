-- What callers get of an LLDPDU and of a management address, field by field.
use Rattle.std.specs.Prelude.{◌≡◌, ℕ, ◌+◌, ◌<◌, ◌≤◌, List, ◌∷◌, ◌++◌, length}
use Rattle.std.specs.Int.{to_be_bytes, w32}
use Rattle.lldp_pdu.specs.declared.fields.Msap.{Msap}
use Rattle.lldp_pdu.specs.declared.fields.Mgmt.{Mgmt}
use Rattle.lldp_pdu.specs.Lldpdu.{extent, ttl_of, msap_of}
use Rattle.lldp_pdu.specs.Kept.{kept_of, discarded_of, count_unrecognized}
use Rattle.lldp_pdu.specs.Info.{LldpInfo}

-- The TTL is 0, and the name has the Chassis ID and the Port ID.
pub record Leaves (octets : List ℕ) (name : Msap) : Type 0 where
  pub ttl : ttl_of octets ≡ 0
  pub chassis : name.chassis.now ≡ (msap_of octets).chassis
  pub port : name.port.now ≡ (msap_of octets).port

-- The TTL is above 0, and each field is that of the LLDPDU.
pub record Gives (octets : List ℕ) (info : LldpInfo) : Type 0 where
  pub lives : 0 < info.ttl
  pub ttl : info.ttl ≡ ttl_of octets
  pub chassis : info.msap.chassis ≡ (msap_of octets).chassis
  pub port : info.msap.port ≡ (msap_of octets).port
  pub octets_are : info.octets ≡ extent octets
  pub short : length info.octets ≤ length octets
  pub kept : info.kept ≡ kept_of octets
  pub discarded : info.discarded ≡ discarded_of octets
  pub unrecognized : info.unrecognized ≡ count_unrecognized (kept_of octets)

-- The body has these fields in this order, with the lengths of the address and of the OID.
abbrev pub HasFields : List ℕ → Mgmt → Type 0
HasFields body given =
    body ≡ (length given.address.now + 1) ∷ given.family ∷ given.address.now ++ given.numbering
    ∷ to_be_bytes w32 given.interface ++ length given.oid.now ∷ given.oid.now
