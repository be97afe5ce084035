-- An LLDPDU is sound exactly if `IsSound` holds. If not, its first wrong TLV determines the fault.
use Rattle.std.proofs.Common.{◌≡◌, ℕ, ◌<◌, ◌≤◌, ◌⊎◌, inl, inr, Bool, true, false, cond, ◌&&◌, List, [], ◌∷◌, length, Some, None, refl, sym, ap, ◌∙◌, eq-zero-or-pos, arith}
use Rattle.std.specs.Prelude.{nat_lt}
use Rattle.std.specs.List.{list_any, AllByRecursion}
use Rattle.std.proofs.lemmas.Bool.{or_parts, le-leb, leb-true, lt-ltb}
use Rattle.std.proofs.lemmas.Bool.Decides.{nat_tests}
use Rattle.std.proofs.lemmas.Grind.{common_steps}
use Rattle.lldp_pdu.specs.declared.fault.PduFault.TheVariants.{Repeated}
use Rattle.lldp_pdu.specs.Tlv.{TlvUnit}
use Rattle.lldp_pdu.specs.Cut.{cut}
use Rattle.lldp_pdu.specs.Lldpdu.{is_end, seconds, before_end, tlv_at, ttl_of, later_tlvs}
use Rattle.lldp_pdu.specs.Check.{first_fault}
use Rattle.lldp_pdu.specs.Range.{is_between}
use Rattle.lldp_pdu.specs.Msap.{IsIdentifier}
use Rattle.lldp_pdu.specs.Fault.{is_mandatory, checks, fault_of}
use Rattle.lldp_pdu.specs.Laws.SoundForm.{of_kind, AreOther, IsSound, AreNamed, HasFaults}
use Rattle.lldp_pdu.proofs.Opening.{fault_from, sound_checks}
use Rattle.lldp_pdu.proofs.Telling.{sound_opens, ttl_tlvs, fault_tlvs, sound_last, later_kind}
use Rattle.lldp_pdu.proofs.Drafts.{later_from}

-- ---- no other TLV of a mandatory type

later_kinds : (us : List TlvUnit) → list_any is_mandatory (before_end us) ≡ false → AreOther us
later_kinds [] m = tt
later_kinds (u ∷ us) m = go (is_end u) refl m (later_kinds us)
  where
    go : (b : Bool) → is_end u ≡ b → list_any is_mandatory (cond b [] (u ∷ before_end us)) ≡ false → (list_any is_mandatory (before_end us) ≡ false → AreOther us)
        → AllByRecursion (λ (u : TlvUnit). 4 ≤ u.kind) (cond b [] (u ∷ before_end us))
    go true e m below = tt
    go false e m below = let p = or_parts (is_mandatory u) (list_any is_mandatory (before_end us)) m in (later_kind u.kind e p.0, below p.1)

no_mandatory : (us : List TlvUnit) → AllByRecursion (λ (u : TlvUnit). 4 ≤ u.kind) us → list_any is_mandatory us ≡ false
no_mandatory [] h = refl
no_mandatory (u ∷ us) h = grind (arith, common_steps, h.0, no_mandatory us h.1)

-- ---- there is no fault exactly if `IsSound` holds

pub sound_has_form : (octets : List ℕ) → fault_of octets ≡ None → IsSound octets
sound_has_form octets h =
    let checked = fault_tlvs octets ∙ h in
    let o = sound_opens (cut octets).tlvs (ttl_of octets) (later_tlvs octets) checked in
    let first : o.chassis ≡ of_kind 1 o.chassis.body = ap (λ k. of_kind k o.chassis.body) o.chassis_kind in
    let second : o.port ≡ of_kind 2 o.port.body = ap (λ k. of_kind k o.port.body) o.port_kind in
    let third : o.ttl ≡ of_kind 3 o.ttl.body = ap (λ k. of_kind k o.ttl.body) o.ttl_kind in
    let tlvs : (cut octets).tlvs ≡ of_kind 1 o.chassis.body ∷ of_kind 2 o.port.body ∷ of_kind 3 o.ttl.body ∷ o.others =
    o.parts ∙ ap (λ u. u ∷ o.port ∷ o.ttl ∷ o.others) first ∙ ap (λ u. of_kind 1 o.chassis.body ∷ u ∷ o.ttl ∷ o.others) second ∙ ap (λ u. of_kind 1 o.chassis.body ∷ of_kind 2 o.port.body ∷ u ∷ o.others) third in
    let ttl : ttl_of octets ≡ seconds o.ttl.body = ttl_tlvs octets ∙ ap (λ (us : List TlvUnit). seconds (tlv_at us 2).body) tlvs in
    let later : later_tlvs octets ≡ before_end o.others = later_from octets _ tlvs in
    record {
      chassis = o.chassis.body;
      port = o.port.body;
      ttl = o.ttl.body;
      others = o.others;
      tlvs = tlvs;
      chassis_length = o.chassis_fits;
      port_length = o.port_fits;
      ttl_length = o.ttl_fits;
      no_other = by o.others ttl (λ lives. ap (list_any is_mandatory) (sym later) ∙ sound_last (cut octets).tlvs (ttl_of octets) (later_tlvs octets) checked lives) (eq-zero-or-pos (ttl_of octets));
    }
  where
    by : {n : ℕ} (others : List TlvUnit) → ttl_of octets ≡ n → (0 < ttl_of octets → list_any is_mandatory (before_end others) ≡ false) → (ttl_of octets ≡ 0) ⊎ (0 < ttl_of octets)
        → (n ≡ 0) ⊎ AreOther others
    by others e none (inl z) = inl (sym e ∙ z)
    by others e none (inr lives) = inr (later_kinds others (none lives))

neither : {r : Bool} (b : Bool) → r ≡ false → cond (b && r) (Some Repeated) None ≡ None
neither b e = grind (arith, common_steps)

pub form_is_sound : (octets : List ℕ) → IsSound octets → fault_of octets ≡ None
form_is_sound octets f =
    let ttl : ttl_of octets ≡ seconds f.ttl = ttl_tlvs octets ∙ ap (λ (us : List TlvUnit). seconds (tlv_at us 2).body) f.tlvs in
    let later : later_tlvs octets ≡ before_end f.others = later_from octets _ f.tlvs in
    fault_from octets _ (seconds f.ttl) f.tlvs ttl
    ∙ sound_checks f.chassis f.port f.ttl f.others (seconds f.ttl) (later_tlvs octets) f.chassis_length.least f.chassis_length.greatest f.port_length.least f.port_length.greatest f.ttl_length
    ∙ last f.no_other later
  where
    last : {later : List TlvUnit} → (seconds f.ttl ≡ 0) ⊎ AreOther f.others → later ≡ before_end f.others
        → cond (nat_lt 0 (seconds f.ttl) && list_any is_mandatory later) (Some Repeated) None ≡ None
    last (inl z) e = rw z refl
    last {later} (inr h) e = let none : list_any is_mandatory later ≡ false = ap (list_any is_mandatory) e ∙ no_mandatory (before_end f.others) h in neither (nat_lt 0 (seconds f.ttl)) none

-- ---- the fault of an LLDPDU that is not sound

named : (body : List ℕ) → IsIdentifier body → is_between 2 (length body) 256 ≡ true
named body h = rw (le-leb 2 (length body) h.least, le-leb (length body) 256 h.greatest) refl

unnamed : (body : List ℕ) → ¬ (IsIdentifier body) → is_between 2 (length body) 256 ≡ false
unnamed body n = grind (arith, common_steps, leb-true)

by_checks : (octets : List ℕ) (us : List TlvUnit) → (cut octets).tlvs ≡ us → fault_of octets ≡ first_fault (checks us (ttl_of octets) (later_tlvs octets))
by_checks octets us e = fault_from octets us (ttl_of octets) e refl

all_but_last : (octets chassis port ttl : List ℕ) (us : List TlvUnit) → (cut octets).tlvs ≡ of_kind 1 chassis ∷ of_kind 2 port ∷ of_kind 3 ttl ∷ us → AreNamed chassis port → 2 ≤ length ttl → 0 < seconds ttl → ¬ (AreOther us)
    → first_fault (checks (of_kind 1 chassis ∷ of_kind 2 port ∷ of_kind 3 ttl ∷ us) (ttl_of octets) (later_tlvs octets)) ≡ Some Repeated
all_but_last octets chassis port ttl us e h l s n = grind (arith, common_steps, ttl_tlvs, later_from, later_kinds, sound_checks, lt-ltb)

pub faults_are : (octets chassis port ttl : List ℕ) (u : TlvUnit) (us : List TlvUnit) → HasFaults octets chassis port ttl u us
faults_are octets chassis port ttl u us = record {
  nothing = λ e. by_checks octets [] e;
  no_chassis = λ e n. by_checks octets (u ∷ us) e ∙ grind (arith, common_steps, nat_tests, n);
  chassis_length = λ e n. by_checks octets (of_kind 1 chassis ∷ us) e ∙ grind (arith, common_steps, unnamed chassis n);
  chassis_alone = λ e h. by_checks octets (of_kind 1 chassis ∷ []) e ∙ grind (arith, common_steps, named chassis h);
  no_port = λ e h n. by_checks octets (of_kind 1 chassis ∷ u ∷ us) e ∙ grind (arith, common_steps, nat_tests, named chassis h, n);
  port_length = λ e h n. by_checks octets (of_kind 1 chassis ∷ of_kind 2 port ∷ us) e ∙ grind (arith, common_steps, named chassis h, unnamed port n);
  two_alone = λ e h. by_checks octets (of_kind 1 chassis ∷ of_kind 2 port ∷ []) e ∙ grind (arith, common_steps, named chassis h.chassis_fits, named port h.port_fits);
  no_ttl = λ e h n. by_checks octets (of_kind 1 chassis ∷ of_kind 2 port ∷ u ∷ us) e ∙ grind (arith, common_steps, nat_tests, named chassis h.chassis_fits, named port h.port_fits, n);
  ttl_length = λ e h s. by_checks octets (of_kind 1 chassis ∷ of_kind 2 port ∷ of_kind 3 ttl ∷ us) e ∙ grind (arith, common_steps, nat_tests, named chassis h.chassis_fits, named port h.port_fits, s);
  repeated = λ e h l s n. by_checks octets _ e ∙ all_but_last octets chassis port ttl us e h l s n;
}
