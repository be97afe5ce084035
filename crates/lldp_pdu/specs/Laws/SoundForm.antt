-- The form of a sound LLDPDU, and the faults of all others (IEEE 802.1AB-2009, 8.2 and 9.2.7.7).
use Rattle.std.specs.Prelude.{◌≡◌, ℕ, ◌<◌, ◌≤◌, ◌⊎◌, List, [], ◌∷◌, length, Some}
use Rattle.std.specs.List.{AllByRecursion}
use Rattle.lldp_pdu.specs.declared.fault.PduFault.TheVariants.{Truncated, NoChassis, ChassisLength, NoPort, PortLength, NoTtl, TtlLength, Repeated}
use Rattle.lldp_pdu.specs.Tlv.{TlvUnit}
use Rattle.lldp_pdu.specs.Cut.{cut}
use Rattle.lldp_pdu.specs.Msap.{IsIdentifier}
use Rattle.lldp_pdu.specs.Lldpdu.{seconds, before_end}
use Rattle.lldp_pdu.specs.Fault.{fault_of}

abbrev pub of_kind : ℕ → List ℕ → TlvUnit
of_kind kind body = record { kind = kind; body = body }

-- no TLV before the End Of LLDPDU is a Chassis ID, a Port ID or a Time To Live
abbrev pub AreOther : List TlvUnit → Type 0
AreOther others = AllByRecursion (λ (u : TlvUnit). 4 ≤ u.kind) (before_end others)

-- The octets begin with a Chassis ID and a Port ID of 2 to 256 octets and a Time To Live of 2 or
-- more octets. Unless the TTL is 0, no other TLV before the End Of LLDPDU has one of these types.
pub record IsSound (octets : List ℕ) : Type 0 where
  pub chassis : List ℕ
  pub port : List ℕ
  pub ttl : List ℕ
  pub others : List TlvUnit
  pub tlvs : (cut octets).tlvs ≡ of_kind 1 chassis ∷ of_kind 2 port ∷ of_kind 3 ttl ∷ others
  pub chassis_length : IsIdentifier chassis
  pub port_length : IsIdentifier port
  pub ttl_length : 2 ≤ length ttl
  pub no_other : (seconds ttl ≡ 0) ⊎ AreOther others

-- The Chassis ID and the Port ID have 2 to 256 octets each.
pub record AreNamed (chassis port : List ℕ) : Type 0 where
  pub chassis_fits : IsIdentifier chassis
  pub port_fits : IsIdentifier port

-- The fault of an LLDPDU that is not sound: that of the first defect in the first three TLVs (a
-- missing TLV, a wrong type or a wrong length), or Repeated if these TLVs have no defect.
pub record HasFaults (octets chassis port ttl : List ℕ) (u : TlvUnit) (us : List TlvUnit) : Type 0 where
  pub nothing : (cut octets).tlvs ≡ [] → fault_of octets ≡ Some Truncated
  pub no_chassis : (cut octets).tlvs ≡ u ∷ us → ¬ (u.kind ≡ 1) → fault_of octets ≡ Some NoChassis
  pub chassis_length : (cut octets).tlvs ≡ of_kind 1 chassis ∷ us → ¬ (IsIdentifier chassis) → fault_of octets ≡ Some ChassisLength
  pub chassis_alone : (cut octets).tlvs ≡ of_kind 1 chassis ∷ [] → IsIdentifier chassis → fault_of octets ≡ Some Truncated
  pub no_port : (cut octets).tlvs ≡ of_kind 1 chassis ∷ u ∷ us → IsIdentifier chassis → ¬ (u.kind ≡ 2) → fault_of octets ≡ Some NoPort
  pub port_length : (cut octets).tlvs ≡ of_kind 1 chassis ∷ of_kind 2 port ∷ us → IsIdentifier chassis → ¬ (IsIdentifier port) → fault_of octets ≡ Some PortLength
  pub two_alone : (cut octets).tlvs ≡ of_kind 1 chassis ∷ of_kind 2 port ∷ [] → AreNamed chassis port → fault_of octets ≡ Some Truncated
  pub no_ttl : (cut octets).tlvs ≡ of_kind 1 chassis ∷ of_kind 2 port ∷ u ∷ us → AreNamed chassis port → ¬ (u.kind ≡ 3) → fault_of octets ≡ Some NoTtl
  pub ttl_length : (cut octets).tlvs ≡ of_kind 1 chassis ∷ of_kind 2 port ∷ of_kind 3 ttl ∷ us → AreNamed chassis port → length ttl < 2 → fault_of octets ≡ Some TtlLength
  pub repeated : (cut octets).tlvs ≡ of_kind 1 chassis ∷ of_kind 2 port ∷ of_kind 3 ttl ∷ us → AreNamed chassis port → 2 ≤ length ttl → 0 < seconds ttl → ¬ (AreOther us) → fault_of octets ≡ Some Repeated
