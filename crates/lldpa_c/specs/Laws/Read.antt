-- What examining, walking and building tell, for every LLDPDU.
use Rattle.std.specs.Prelude.{◌≡◌, ℕ, zero, suc, ◌+◌, ◌<◌, ◌%◌, ◌^◌, ◌++◌, true, false, List, [], ◌∷◌, length, map, take, None, Some}
use Rattle.lldp_pdu.specs.declared.fault.PduFault.TheVariants as pdu
use Rattle.lldp_pdu.specs.declared.fault.BuildFault.TheVariants as tlv
use Rattle.lldp_pdu.specs.Draft.{Draft}
use Rattle.lldp_pdu.specs.Fault.{fault_of}
use Rattle.lldp_pdu.specs.Frame.{lldpdu_of}
use Rattle.lldp_pdu.specs.Kept.{kept_of, count_unrecognized}
use Rattle.lldp_pdu.specs.Lldpdu.{extent, ttl_of, msap_of}
use Rattle.lldp_pdu.specs.Code.Seen.{none_seen}
use Rattle.lldp_pdu.specs.Tlv.{TlvUnit, AreOctets}
use Rattle.lldp_engine.specs.AgentState.{PortState}
use Rattle.lldp_engine.specs.Event.{frame}
use Rattle.lldp_engine.specs.Past.{Past, with_event}
use Rattle.lldp_engine.specs.Laws.Deaf.{Hears}
use Rattle.lldp_engine.specs.Laws.PortAt.{port_at}
use Rattle.lldpa_c.specs.declared.bodies.LldpaManagement.{LldpaManagement}
use Rattle.lldpa_c.specs.declared.build.LldpaTlv.{LldpaTlv}
use Rattle.lldpa_c.specs.declared.examine.LldpaExamined.{LldpaExamined}
use Rattle.lldpa_c.specs.declared.kept.LldpaKept.{LldpaKept}
use Rattle.lldpa_c.specs.Bodies.{IsWithin}
use Rattle.lldpa_c.specs.Building.{Builds, begun, put_all, put_faults, tlv_of, fault_number as put_number}
use Rattle.lldpa_c.specs.Examined.{Tells, Examines, fault_number}
use Rattle.lldpa_c.specs.Place.{octets_at}
use Rattle.lldpa_c.specs.Walk.{IsExtent, Advances}

-- the TLVs whose number is 0
abbrev pub those_put : List ℕ → List TlvUnit → List TlvUnit
those_put [] us = []
those_put (number ∷ numbers) [] = []
those_put (zero ∷ numbers) (u ∷ us) = u ∷ those_put numbers us
those_put (suc n ∷ numbers) (u ∷ us) = those_put numbers us

-- Each fault has its number, and no fault has 0. The ranges of identifiers and addresses have as
-- many octets as their lengths say. The extent of a living LLDPDU can be walked.
pub record AreRanges : Type 0 where
  pub faults : map fault_number (None ∷ map Some (pdu.Truncated ∷ pdu.NoChassis ∷ pdu.ChassisLength ∷ pdu.NoPort ∷ pdu.PortLength ∷ pdu.NoTtl ∷ pdu.TtlLength ∷ pdu.Repeated ∷ []))
      ≡ 0 ∷ 1 ∷ 2 ∷ 3 ∷ 4 ∷ 5 ∷ 6 ∷ 7 ∷ 8 ∷ []
  pub identifiers : (octets : List ℕ) (told : LldpaExamined) → Tells octets told →
      (told.chassis.length ≡ length (msap_of octets).chassis) × (told.port.length ≡ length (msap_of octets).port)
  pub addresses : (body : List ℕ) (told : LldpaManagement) → IsWithin body told →
      (length (octets_at body told.address) ≡ told.address.length) × (length (octets_at body told.oid) ≡ told.oid.length)
  pub extents : (octets : List ℕ) → AreOctets octets → fault_of octets ≡ None → 0 < ttl_of octets → IsExtent (extent octets)

-- Each TLV has its own number: 0 if it is in the LLDPDU, and otherwise that of its fault. The TLVs
-- of the LLDPDU are those with 0, in order.
pub record AreBuilt : Type 0 where
  pub faults : map put_number (None ∷ map Some (tlv.Full ∷ tlv.Kind ∷ tlv.Body ∷ [])) ≡ 0 ∷ 11 ∷ 12 ∷ 13 ∷ []
  pub tlvs : (tlv : LldpaTlv) → tlv_of tlv ≡ record { kind = tlv.kind; body = tlv.body.now }
  pub each : (draft : Draft) (us : List TlvUnit) → length (put_faults draft us) ≡ length us
  pub put : (draft : Draft) (us : List TlvUnit) →
      put_all draft us ≡ record { msap = draft.msap; ttl = draft.ttl; tlvs = draft.tlvs ++ those_put (put_faults draft us) us }

-- the two counters of TLVs have risen by these numbers, modulo 2^32
abbrev pub HaveRisen : PortState → PortState → ℕ → ℕ → Type 0
HaveRisen before after discarded unrecognized =
    (after.counters.tlvs_discarded ≡ (before.counters.tlvs_discarded + discarded) % 2 ^ 32)
    × (after.counters.unrecognized ≡ (before.counters.unrecognized + unrecognized) % 2 ^ 32)

-- what is told of an LLDPDU that was built: the identifiers and the TTL that were given, and no TLV is
-- discarded. With a TTL above 0 the unrecognized TLVs are those among the TLVs that were put.
pub record TellsBuilt (octets chassis port : List ℕ) (ttl : ℕ) (put : List TlvUnit) (told : LldpaExamined) : Type 0 where
  pub ttl_is : told.ttl ≡ ttl
  pub chassis_is : octets_at octets told.chassis ≡ chassis
  pub port_is : octets_at octets told.port ≡ port
  pub discarded : told.discarded ≡ 0
  pub unrecognized : 0 < ttl → told.unrecognized ≡ count_unrecognized put

-- The numbers of TLVs that C is told of an LLDPDU are those by which the counters of a port rise that
-- hears it. An LLDPDU that was built is told as it was given.
pub record AreExamined : Type 0 where
  pub counted : (past : Past) (i : ℕ) (octets lldpdu : List ℕ) (told_before told : LldpaExamined) (before after : PortState) →
      Examines lldpdu told_before 0 told → Hears past i → lldpdu_of octets ≡ Some lldpdu →
      port_at past i ≡ Some before → port_at (with_event past (frame i octets)) i ≡ Some after → HaveRisen before after told.discarded told.unrecognized
  pub built : (chassis port faults_before faults room_before room : List ℕ) (ttl written_before written answer : ℕ) (tlvs : List LldpaTlv)
      (told_before told : LldpaExamined) →
      Builds chassis port ttl tlvs faults_before room_before written_before 0 faults room written → Examines (take written room) told_before answer told →
      (answer ≡ 0) × TellsBuilt (take written room) chassis port ttl (those_put (put_faults (begun chassis port ttl) (map tlv_of tlvs)) (map tlv_of tlvs)) told

-- a walk from here, called until nothing is left, finds these TLVs in this order
abbrev pub Finds : List ℕ → LldpaKept → List TlvUnit → Type 0
Finds octets walk [] = (after : LldpaKept) × Advances octets walk false after
Finds octets walk (u ∷ us) =
    (after : LldpaKept) × Advances octets walk true after × (u ≡ record { kind = after.kind; body = octets_at octets after.body })
    × Finds octets after us

-- A walk from the beginning finds each kept TLV of the extent of an LLDPDU once, in order, and nothing else.
pub record AreWalked : Type 0 where
  pub whole : (octets : List ℕ) (walk : LldpaKept) (us : List TlvUnit) → AreOctets octets → IsExtent octets →
      walk.next ≡ 0 → walk.met ≡ none_seen → Finds octets walk us → us ≡ kept_of octets
