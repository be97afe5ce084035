-- Worked examples of what C receives: octets, and the fields and numbers that they give.
use Rattle.std.proofs.Common.{◌≡◌, ℕ, ◌<◌, true, false, List, [], ◌∷◌, ◌++◌, length, map, take, Some, refl, sym, ap, ◌∙◌, arith}
use Rattle.std.specs.Prelude.{replicate}
use Rattle.std.proofs.lemmas.List.{length-take-le}
use Rattle.lldp_pdu.specs.Cut.{cut_within, cut}
use Rattle.lldp_pdu.specs.Code.Seen.{has_flag, with_flag}
use Rattle.lldp_pdu.specs.Draft.{lldpdu_octets, put_fault}
use Rattle.lldp_pdu.specs.Fault.{fault_of}
use Rattle.lldp_pdu.specs.Kept.{kept_of, discarded_of}
use Rattle.lldp_pdu.specs.Lldpdu.{extent, ended_incomplete, ttl_of, msap_of, later_tlvs}
use Rattle.lldp_pdu.specs.ManagementAddress.{Address, address_of}
use Rattle.lldp_pdu.specs.Tlv.{TlvUnit}
use Rattle.lldp_pdu.specs.WellFormed.{is_well_formed}
use Rattle.lldp_transmit.specs.declared.event.Cause.TheVariants as cause
use Rattle.lldp_transmit.specs.declared.event.Mark.{Mark}
use Rattle.lldp_transmit.specs.declared.event.Mark.TheVariants.{Ordinary, Shutdown}
use Rattle.lldp_transmit.specs.History.{settings}
use Rattle.lldp_transmit.specs.Code.Machine.{Machine, opened}
use Rattle.lldpa_c.specs.declared.bodies.LldpaManagement.{LldpaManagement}
use Rattle.lldpa_c.specs.declared.examine.LldpaExamined.{LldpaExamined}
use Rattle.lldpa_c.specs.Bodies.{address_told}
use Rattle.lldpa_c.specs.Building.{begun, put_all, put_faults}
use Rattle.lldpa_c.specs.Examined.{fault_number, Tells}
use Rattle.lldpa_c.specs.Machine.{Takes}
use Rattle.lldpa_c.specs.Place.{octets_at}
use Rattle.lldpa_c.specs.Walk.{left_of}

abbrev tlv : ℕ → List ℕ → TlvUnit
tlv kind body = record { kind = kind; body = body }

-- ---- reading

abbrev chassis : List ℕ
chassis = 0x04 ∷ 0x00 ∷ 0x11 ∷ 0x22 ∷ 0x33 ∷ 0x44 ∷ 0x55 ∷ []

abbrev port : List ℕ
port = 0x05 ∷ 0x65 ∷ 0x74 ∷ 0x68 ∷ 0x30 ∷ []

-- an LLDPDU with this TTL, two system names, three unrecognized TLVs and an incomplete one
abbrev lldpdu : ℕ → List ℕ
lldpdu ttl =
    0x02 ∷ 0x07 ∷ chassis ++ 0x04 ∷ 0x05 ∷ port ++ 0x06 ∷ 0x02 ∷ 0x00 ∷ ttl ∷ 0x0a ∷ 0x03 ∷ 0x73 ∷ 0x77 ∷ 0x31 ∷ 0x0a ∷ 0x03 ∷ 0x73 ∷ 0x77 ∷ 0x32
    ∷ 0x12 ∷ 0x00 ∷ 0x12 ∷ 0x01 ∷ 0x61 ∷ 0xfe ∷ 0x04 ∷ 0x00 ∷ 0x12 ∷ 0x0f ∷ 0x01 ∷ 0x0c ∷ []

lives : 0 < ttl_of (lldpdu 120)
unfolding cut_within cut ttl_of
lives = omega arith

examined : (told : LldpaExamined) → Tells (lldpdu 120) told
    → (told.ttl ≡ 120) × (octets_at (lldpdu 120) told.chassis ≡ chassis) × (octets_at (lldpdu 120) told.port ≡ port) × (told.extent ≡ 41) × (told.discarded ≡ 2) × (told.unrecognized ≡ 3)
unfolding cut_within cut extent ended_incomplete ttl_of msap_of later_tlvs is_well_formed kept_of discarded_of
examined told t =
    let life = t.life lives in
    (t.ttl, t.chassis.held, t.port.held, sym (length-take-le told.extent (lldpdu 120) life.within) ∙ ap length life.extent, life.discarded, life.unrecognized)

-- a shutdown tells its name and nothing else
examined_shutdown : (told : LldpaExamined) → Tells (lldpdu 0) told
    → (told.ttl ≡ 0) × (octets_at (lldpdu 0) told.chassis ≡ chassis) × (octets_at (lldpdu 0) told.port ≡ port) × (told.extent ≡ 0) × (told.discarded ≡ 0) × (told.unrecognized ≡ 0)
unfolding cut_within cut ttl_of msap_of
examined_shutdown told t = let gone = t.gone refl in (t.ttl, t.chassis.held, t.port.held, gone.extent, gone.discarded, gone.unrecognized)

faults : map (λ octets. fault_number (fault_of octets)) (lldpdu 120 ∷ [] ∷ take 9 (lldpdu 120) ∷ (0x00 ∷ 0x00 ∷ []) ∷ (0x02 ∷ 0x01 ∷ 0x04 ∷ [])
    ∷ (0x02 ∷ 0x07 ∷ chassis ++ 0x06 ∷ 0x02 ∷ 0x00 ∷ 0x78 ∷ []) ∷ (0x02 ∷ 0x07 ∷ chassis ++ 0x04 ∷ 0x01 ∷ 0x05 ∷ []) ∷ (take 16 (lldpdu 120) ++ 0x00 ∷ 0x00 ∷ [])
    ∷ (take 16 (lldpdu 120) ++ 0x06 ∷ 0x01 ∷ 0x78 ∷ []) ∷ (take 20 (lldpdu 120) ++ 0x06 ∷ 0x02 ∷ 0x00 ∷ 0x01 ∷ []) ∷ [])
    ≡ 0 ∷ 1 ∷ 1 ∷ 2 ∷ 3 ∷ 4 ∷ 5 ∷ 6 ∷ 7 ∷ 8 ∷ []
unfolding cut_within cut extent ended_incomplete ttl_of msap_of later_tlvs is_well_formed fault_of
faults = refl

-- a walk from its start, and after the first system name was found
walked : left_of (take 41 (lldpdu 120)) (record { next = 0; body = record { start = 0; length = 0 }; met = replicate 4 false; kind = 0 })
    ≡ tlv 5 (0x73 ∷ 0x77 ∷ 0x31 ∷ []) ∷ tlv 9 [] ∷ tlv 9 (0x61 ∷ []) ∷ tlv 127 (0x00 ∷ 0x12 ∷ 0x0f ∷ 0x01 ∷ []) ∷ []
unfolding cut_within cut is_well_formed has_flag with_flag
walked = refl

walked_on : left_of (take 41 (lldpdu 120)) (record { next = 25; body = record { start = 22; length = 3 }; met = false ∷ true ∷ false ∷ false ∷ []; kind = 5 })
    ≡ tlv 9 [] ∷ tlv 9 (0x61 ∷ []) ∷ tlv 127 (0x00 ∷ 0x12 ∷ 0x0f ∷ 0x01 ∷ []) ∷ []
unfolding cut_within cut is_well_formed has_flag with_flag
walked_on = refl

places : map (octets_at (10 ∷ 11 ∷ 12 ∷ 13 ∷ [])) (record { start = 0; length = 0 } ∷ record { start = 1; length = 2 } ∷ record { start = 3; length = 1 } ∷ [])
    ≡ [] ∷ (11 ∷ 12 ∷ []) ∷ (13 ∷ []) ∷ []
places = refl

abbrev management : List ℕ
management = 5 ∷ 1 ∷ 192 ∷ 0 ∷ 2 ∷ 1 ∷ 2 ∷ 0 ∷ 0 ∷ 0 ∷ 3 ∷ 2 ∷ 43 ∷ 6 ∷ []

addresses : (told : LldpaManagement) → address_of management ≡ Some (address_told management told)
    → (told.family ≡ 1) × (octets_at management told.address ≡ 192 ∷ 0 ∷ 2 ∷ 1 ∷ []) × (told.numbering ≡ 2) × (told.interface ≡ 3) × (octets_at management told.oid ≡ 43 ∷ 6 ∷ [])
addresses told h =
    let same : address_told management told ≡ record { family = 1; address = 192 ∷ 0 ∷ 2 ∷ 1 ∷ []; numbering = 2; interface = 3; oid = 43 ∷ 6 ∷ [] } = sym cc in (
      ap (λ (a : Address). a.family) same,
      ap (λ (a : Address). a.address) same,
      ap (λ (a : Address). a.numbering) same,
      ap (λ (a : Address). a.interface) same,
      ap (λ (a : Address). a.oid) same,
    )

-- ---- building

-- put, put before, not well formed, two of 511 octets, a third that does not fit, and one that does
abbrev given : List TlvUnit
given =
    tlv 5 (0x73 ∷ 0x77 ∷ 0x31 ∷ []) ∷ tlv 5 (0x73 ∷ 0x77 ∷ 0x32 ∷ []) ∷ tlv 7 (0x00 ∷ []) ∷ tlv 9 (replicate 511 0x61) ∷ tlv 9 (replicate 511 0x61)
    ∷ tlv 9 (replicate 511 0x61) ∷ tlv 9 [] ∷ []

refused : put_faults (begun chassis port 120) given ≡ 0 ∷ 12 ∷ 13 ∷ 0 ∷ 0 ∷ 11 ∷ 0 ∷ []
unfolding put_fault is_well_formed
refused = refl

built : lldpdu_octets (put_all (begun chassis port 120) (tlv 5 (0x73 ∷ 0x77 ∷ 0x31 ∷ []) ∷ tlv 5 (0x73 ∷ 0x77 ∷ 0x32 ∷ []) ∷ tlv 9 [] ∷ []))
    ≡ take 25 (lldpdu 120) ++ 0x12 ∷ 0x00 ∷ 0x00 ∷ 0x00 ∷ []
unfolding put_fault is_well_formed
built = refl

-- ---- a machine

-- what a machine marks at its first tick, with a credit that is one less after it
first_tick : (after : Machine) (mark : Mark) → Takes (opened (settings 5 4 2 true)) cause.Tick 30 after mark
    → (mark ≡ Ordinary) × (after.credit ≡ 4) × (after.timer ≡ 30) × (after.active ≡ true)
first_tick after mark t = (t.told, ap (λ (m : Machine). m.credit) t.next, ap (λ (m : Machine). m.timer) t.next, ap (λ (m : Machine). m.active) t.next)

stop : (after : Machine) (mark : Mark) → Takes (record (opened (settings 5 4 2 true)) { active = true }) cause.Stop 30 after mark
    → (mark ≡ Shutdown) × (after.wait ≡ 2) × (after.allowed ≡ false)
stop after mark t = (t.told, ap (λ (m : Machine). m.wait) t.next, ap (λ (m : Machine). m.allowed) t.next)
