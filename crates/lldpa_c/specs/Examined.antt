-- The fields of an LLDPDU, in the struct for C.
use Rattle.std.specs.Prelude.{◌≡◌, ℕ, ◌+◌, ◌<◌, ◌≤◌, List, length, take, Option, Some, None, IsSome}
use Rattle.lldp_pdu.specs.declared.fault.PduFault.{PduFault}
use Rattle.lldp_pdu.specs.FaultNumber.{pdu_fault_number}
use Rattle.lldp_pdu.specs.Fault.{fault_of}
use Rattle.lldp_pdu.specs.Msap.{MsapId}
use Rattle.lldp_pdu.specs.Info.{LldpInfo}
use Rattle.lldp_pdu.specs.Lldpdu.{extent, ttl_of, msap_of}
use Rattle.lldp_pdu.specs.Kept.{kept_of, discarded_of, count_unrecognized}
use Rattle.lldpa_c.specs.declared.place.LldpaPlace.{LldpaPlace}
use Rattle.lldpa_c.specs.declared.examine.LldpaExamined.{LldpaExamined}
use Rattle.lldpa_c.specs.Place.{Holds}

-- the number of a fault, or 0
abbrev pub fault_number : Option PduFault → ℕ
fault_number None = 0
fault_number (Some fault) = pdu_fault_number fault

-- for a TTL above 0, the extent and the two numbers of TLVs are those of the LLDPDU
pub record TellsLife (octets : List ℕ) (told : LldpaExamined) : Type 0 where
  pub within : told.extent ≤ length octets
  pub extent : take told.extent octets ≡ extent octets
  pub discarded : told.discarded ≡ discarded_of octets
  pub unrecognized : told.unrecognized ≡ count_unrecognized (kept_of octets)

-- for a TTL of 0, the extent and the two numbers of TLVs are 0
pub record TellsNothing (told : LldpaExamined) : Type 0 where
  pub extent : told.extent ≡ 0
  pub discarded : told.discarded ≡ 0
  pub unrecognized : told.unrecognized ≡ 0

-- `told` has the fields of an LLDPDU without a fault.
pub record Tells (octets : List ℕ) (told : LldpaExamined) : Type 0 where
  pub ttl : told.ttl ≡ ttl_of octets
  pub chassis : Holds octets told.chassis (msap_of octets).chassis
  pub port : Holds octets told.port (msap_of octets).port
  pub life : 0 < ttl_of octets → TellsLife octets told
  pub gone : ttl_of octets ≡ 0 → TellsNothing told

-- The answer is the number of the LLDPDU's fault, and nothing is written; or it is 0, and the fields
-- are written.
pub record Examines (octets : List ℕ) (told_before : LldpaExamined) (answer : ℕ) (told : LldpaExamined) : Type 0 where
  pub answer_is : answer ≡ fault_number (fault_of octets)
  pub right : fault_of octets ≡ None → Tells octets told
  pub refused : IsSome (fault_of octets) → told ≡ told_before

-- ---- the ranges of the identifiers: each body comes after a TLV header of 2 octets

abbrev pub chassis_place : MsapId → LldpaPlace
chassis_place msap = record { start = 2; length = length msap.chassis }

abbrev pub port_place : MsapId → LldpaPlace
port_place msap = record { start = 2 + length msap.chassis + 2; length = length msap.port }

-- ---- the structs that the code writes for a TTL of 0, and for a TTL above 0

abbrev pub told_gone : MsapId → LldpaExamined
told_gone msap = record {
  chassis = chassis_place msap;
  port = port_place msap;
  extent = 0;
  discarded = 0;
  unrecognized = 0;
  ttl = 0;
}

abbrev pub told_alive : LldpInfo → LldpaExamined
told_alive info = record {
  chassis = chassis_place info.msap;
  port = port_place info.msap;
  extent = length info.octets;
  discarded = info.discarded;
  unrecognized = info.unrecognized;
  ttl = info.ttl;
}
