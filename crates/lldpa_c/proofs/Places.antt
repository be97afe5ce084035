-- The position of the LLDPDU in a frame, and of the identifiers in an LLDPDU.
use Rattle.std.proofs.Common.{◌≡◌, ℕ, ◌+◌, ◌-◌, ◌*◌, ◌%◌, ◌≤◌, ◌⊎◌, Bool, true, false, cond, List, [], ◌∷◌, length, take, drop, Option, Some, None, refl, sym, ap, ◌∙◌, inl, inr, arith}
use Rattle.std.proofs.lemmas.Bool.{cases_lt, lt-ltb, le-ltb, leb-true}
use Rattle.std.proofs.lemmas.List.{length-take-le, length-drop, drop-drop, take_at}
use Rattle.lldp_pdu.specs.declared.fault.PduFault.TheVariants.{Truncated, NoChassis, ChassisLength}
use Rattle.std.proofs.lemmas.Grind.{common_steps}
use Rattle.lldp_pdu.specs.Tlv.{TlvUnit, AreOctets}
use Rattle.lldp_pdu.specs.Cut.{Cut, first_tlv, cut}
use Rattle.lldp_pdu.specs.Fault.{fault_of}
use Rattle.lldp_pdu.specs.Frame.{is_lldp_frame, lldpdu_of}
use Rattle.lldp_pdu.specs.Lldpdu.{tlv_at, msap_of, ttl_of, extent}
use Rattle.lldp_pdu.proofs.Cuts.{cut_none, cut_some, first_left}
use Rattle.lldp_pdu.proofs.Opening.{fault_from}
use Rattle.lldp_pdu.proofs.Whole.{extent_front}
use Rattle.lldpa_c.specs.Place.{Holds}
use Rattle.lldpa_c.specs.Examined.{chassis_place, port_place}

-- ---- a frame

has_fourteen : (frame : List ℕ) → is_lldp_frame frame ≡ true → 14 ≤ length frame
unfolding is_lldp_frame
has_fourteen frame h = grind (arith, common_steps, leb-true)

-- the LLDPDU is the part of a frame after its first 14 octets
pub header_off : (frame pdu : List ℕ) → Some pdu ≡ lldpdu_of frame → (pdu ≡ drop 14 frame) × (14 + length pdu ≡ length frame)
header_off frame pdu h = at (is_lldp_frame frame) refl h
  where
    at : (b : Bool) → is_lldp_frame frame ≡ b → Some pdu ≡ cond b (Some (drop 14 frame)) None → (pdu ≡ drop 14 frame) × (14 + length pdu ≡ length frame)
    at true e h = (cc, grind (arith, common_steps, has_fourteen, length-drop))
    at false e h = absurd cc

-- ---- the first TLV of an LLDPDU

abbrev body_of : Option (TlvUnit × List ℕ) → List ℕ
body_of None = []
body_of (Some x) = x.0.body

-- the body of the first TLV begins after two octets
pub body_at : (octets : List ℕ) (u : TlvUnit) (others : List ℕ) → first_tlv octets ≡ Some (u, others)
    → (take (length u.body) (drop 2 octets) ≡ u.body) × (2 + length u.body ≤ length octets)
body_at [] u others h = absurd cc
body_at (high ∷ []) u others h = absurd cc
body_at (high ∷ low ∷ octets) u others h =
    let n = (256 * high + low) % 512 in
    elim (cases_lt (length octets) n) [
      | inl less ↦ absurd cc (rw (lt-ltb _ _ less) at h)
      | inr long ↦
          let is : take n octets ≡ u.body = ap body_of (rw (le-ltb _ _ long) at h) in
          let len : length u.body ≡ n = ap length (sym is) ∙ length-take-le n octets long in
          (rw len is, omega (arith, len))
    ]

-- ---- an LLDPDU without a fault begins with two TLVs

-- an LLDPDU with no TLV, or with only one, has a fault
none_is_fault : (octets : List ℕ) → (cut octets).tlvs ≡ [] → fault_of octets ≡ None → ⊥
none_is_fault octets e h = absurd cc (fault_from octets [] (ttl_of octets) e refl, h)

faulty : (a b : Bool) → cond a (Some NoChassis) (cond b (Some ChassisLength) (Some Truncated)) ≡ None → ⊥
faulty true b h = absurd cc
faulty false true h = absurd cc
faulty false false h = absurd cc

one_is_fault : (octets : List ℕ) (u : TlvUnit) → (cut octets).tlvs ≡ u ∷ [] → fault_of octets ≡ None → ⊥
one_is_fault octets u e h = faulty _ _ (sym (fault_from octets (u ∷ []) (ttl_of octets) e refl) ∙ h)

-- The first two TLVs, and the octets after each.
record Begins (octets : List ℕ) : Type 0 where
  chassis : TlvUnit
  behind : List ℕ
  port : TlvUnit
  after : List ℕ
  first : first_tlv octets ≡ Some (chassis, behind)
  second : first_tlv behind ≡ Some (port, after)

pub cases_Option : {A : Type 0} (o : Option A) → (o ≡ None) ⊎ ((x : A) × (o ≡ Some x))
cases_Option None = inl refl
cases_Option (Some x) = inr (x, refl)

begins : (octets : List ℕ) → fault_of octets ≡ None → Begins octets
begins octets h = elim (cases_Option (first_tlv octets)) [
  | inl e ↦ absurd (none_is_fault octets (ap (λ (c : Cut). c.tlvs) (cut_none octets e)) h)
  | inr (x, e) ↦ elim (cases_Option (first_tlv x.1)) [
    | inl f ↦ absurd (one_is_fault octets x.0 (ap (λ (c : Cut). c.tlvs) (cut_some octets x.0 x.1 e) ∙ ap (λ (c : Cut). x.0 ∷ c.tlvs) (cut_none x.1 f)) h)
    | inr (y, f) ↦ record { chassis = x.0; behind = x.1; port = y.0; after = y.1; first = e; second = f }
  ]
]

name_of : (octets : List ℕ) (b : Begins octets) → msap_of octets ≡ record { chassis = b.chassis.body; port = b.port.body }
unfolding msap_of
name_of octets b =
    ap (λ (c : Cut). record { chassis = (tlv_at c.tlvs 0).body; port = (tlv_at c.tlvs 1).body }) (cut_some octets _ _ b.first)
    ∙ ap (λ (c : Cut). record { chassis = b.chassis.body; port = (tlv_at c.tlvs 0).body }) (cut_some b.behind _ _ b.second)

pub chassis_lies : (octets : List ℕ) → fault_of octets ≡ None → Holds octets (chassis_place (msap_of octets)) (msap_of octets).chassis
chassis_lies octets h =
    let b = begins octets h in
    let at = body_at octets _ _ b.first in
    rw (name_of octets b) (record { within = at.1; held = at.0 })

pub port_lies : (octets : List ℕ) → fault_of octets ≡ None → Holds octets (port_place (msap_of octets)) (msap_of octets).port
port_lies octets h =
    let b = begins octets h in
    let behind : b.behind ≡ drop (2 + length b.chassis.body) octets = first_left octets _ _ b.first in
    let one = body_at octets _ _ b.first in
    let two = body_at b.behind _ _ b.second in
    let len : length b.behind ≡ length octets - (2 + length b.chassis.body) = ap length behind ∙ length-drop _ octets in
    let same : drop (2 + length b.chassis.body + 2) octets ≡ drop 2 b.behind = sym (ap (drop 2) behind ∙ drop-drop _ _ octets) in
    rw (name_of octets b) (record { within = omega (arith, len, one.1, two.1); held = ap (take (length b.port.body)) same ∙ two.0 })

-- ---- the extent is a prefix of the octets

pub extent_lies : (octets : List ℕ) → AreOctets octets → take (length (extent octets)) octets ≡ extent octets
extent_lies octets fits =
    let f = extent_front octets fits in
    ap (take (length (extent octets))) f.1 ∙ take_at (extent octets) f.0 _ refl
