use Rattle.std.proofs.Common.{◌≡◌, ℕ, suc, ◌+◌, ◌<◌, ◌≤◌, ◌%◌, ◌^◌, inl, inr, List, [], ◌∷◌, ◌++◌, length, map, take, drop, Option, Some, None, refl, sym, ap, ◌∙◌, append_assoc, append-nil, arith}
use Rattle.std.proofs.lemmas.Bool.{cases_lt}
use Rattle.std.proofs.lemmas.List.{length-drop, length-take-le}
use Rattle.lldp_pdu.specs.declared.fault.BuildFault.{BuildFault}
use Rattle.lldp_pdu.specs.declared.fault.BuildFault.TheVariants as tlv
use Rattle.lldp_pdu.specs.declared.fault.PduFault.{PduFault}
use Rattle.lldp_pdu.specs.declared.fault.PduFault.TheVariants as pdu
use Rattle.lldp_pdu.specs.Draft.{Draft, IsReadBack, put_fault}
use Rattle.lldp_pdu.specs.Fault.{fault_of}
use Rattle.lldp_pdu.specs.Frame.{lldpdu_of}
use Rattle.lldp_pdu.specs.Info.{LldpInfo}
use Rattle.lldp_pdu.specs.Kept.{discarded_of, count_unrecognized}
use Rattle.lldp_pdu.specs.Lldpdu.{ttl_of}
use Rattle.lldp_pdu.specs.Msap.{MsapId}
use Rattle.lldp_pdu.specs.Tlv.{TlvUnit}
use Rattle.lldp_pdu.proofs.Telling.{tells_itself}
use Rattle.lldp_engine.specs.AgentState.{PortState}
use Rattle.lldp_engine.specs.Event.{frame}
use Rattle.lldp_engine.specs.Past.{Past, with_event}
use Rattle.lldp_engine.specs.Laws.Deaf.{Hears}
use Rattle.lldp_engine.specs.Laws.PortAt.{port_at}
use Rattle.lldp_engine.proofs.ForLaws.Tally.{leaves_adds, whole_adds, faulty_adds}
use Rattle.lldpa_c.specs.declared.examine.LldpaExamined.{LldpaExamined}
use Rattle.lldpa_c.specs.declared.kept.LldpaKept.{LldpaKept}
use Rattle.lldpa_c.specs.declared.place.LldpaPlace.{LldpaPlace}
use Rattle.lldpa_c.specs.Building.{begun, tlv_of, put_all, put_faults, put_unless, fault_number}
use Rattle.lldpa_c.specs.Examined.{Tells, fault_number as examined_number}
use Rattle.lldpa_c.specs.Place.{octets_at}
use Rattle.lldpa_c.specs.Walk.{left_of}
use Rattle.lldpa_c.specs.Laws.Read.{those_put, HaveRisen, TellsBuilt, Finds}
use Rattle.lldpa_c.proofs.Walking.{begins_whole}
use Rattle.lldpa_c.proofs.laws.lldpdus_are_told_in_full.Goals as goal

ranged : (octets : List ℕ) (place : LldpaPlace) → place.start + place.length ≤ length octets → length (octets_at octets place) ≡ place.length
ranged octets place h = length-take-le place.length (drop place.start octets) (omega (arith, h, length-drop place.start octets))

pub returns-clause-ranges : goal.returns-clause-ranges
returns-clause-ranges c = record {
  faults = refl;
  identifiers = λ octets told t. (
    sym (ranged octets told.chassis t.chassis.within) ∙ ap length t.chassis.held,
    sym (ranged octets told.port t.port.within) ∙ ap length t.port.held,
  );
  addresses = λ body told w. (ranged body told.address w.address, ranged body told.oid w.oid);
  extents = λ octets are sound lives.
      let t = (tells_itself octets are sound lives).1 in
      record { sound = t.sound; lives = omega (arith, lives, t.ttl); whole = t.extent };
}

-- ---- TLVs that are put, one after another

abbrev with_those : Draft → List ℕ → List TlvUnit → Draft
with_those d numbers us = record { msap = d.msap; ttl = d.ttl; tlvs = d.tlvs ++ those_put numbers us }

put_next : (f : Option BuildFault) (d : Draft) (u : TlvUnit) (us : List TlvUnit) → put_all (put_unless f d u) us ≡ with_those (put_unless f d u) (put_faults (put_unless f d u) us) us
    → put_all (put_unless f d u) us ≡ with_those d (fault_number f ∷ put_faults (put_unless f d u) us) (u ∷ us)
put_next None d u us h = h ∙ ap (λ tlvs. record { msap = d.msap; ttl = d.ttl; tlvs = tlvs }) (append_assoc d.tlvs (u ∷ []) (those_put (put_faults (put_unless None d u) us) us))
put_next (Some tlv.Full) d u us h = h
put_next (Some tlv.Kind) d u us h = h
put_next (Some tlv.Body) d u us h = h

put_is : (d : Draft) (us : List TlvUnit) → put_all d us ≡ with_those d (put_faults d us) us
put_is d [] = ap (λ tlvs. record { msap = d.msap; ttl = d.ttl; tlvs = tlvs }) (sym (append-nil d.tlvs))
put_is d (u ∷ us) = put_next (put_fault d u) d u us (put_is (put_unless (put_fault d u) d u) us)

each : (d : Draft) (us : List TlvUnit) → length (put_faults d us) ≡ length us
each d [] = refl
each d (u ∷ us) = ap suc (each (put_unless (put_fault d u) d u) us)

pub returns-clause-built : goal.returns-clause-built
returns-clause-built c = record { faults = refl; tlvs = λ t. refl; each = each; put = put_is }

-- ---- LLDPDUs that are examined

no_fault : (f : Option PduFault) → 0 ≡ examined_number f → f ≡ None
no_fault None h = refl
no_fault (Some pdu.Truncated) h = absurd cc
no_fault (Some pdu.NoChassis) h = absurd cc
no_fault (Some pdu.ChassisLength) h = absurd cc
no_fault (Some pdu.NoPort) h = absurd cc
no_fault (Some pdu.PortLength) h = absurd cc
no_fault (Some pdu.NoTtl) h = absurd cc
no_fault (Some pdu.TtlLength) h = absurd cc
no_fault (Some pdu.Repeated) h = absurd cc

risen : (before after n told : ℕ) → after ≡ (before + n) % 2 ^ 32 → told ≡ n → after ≡ (before + told) % 2 ^ 32
risen before after n told h e = h ∙ ap (λ k. (before + k) % 2 ^ 32) (sym e)

module _ (past : Past) (i : ℕ) (octets lldpdu : List ℕ) (told : LldpaExamined) (before after : PortState) (t : Tells lldpdu told) (sound : fault_of lldpdu ≡ None)
    (hears : Hears past i) (is : lldpdu_of octets ≡ Some lldpdu) (was : port_at past i ≡ Some before) (now : port_at (with_event past (frame i octets)) i ≡ Some after) where
  of_leaving : ttl_of lldpdu ≡ 0 → HaveRisen before after told.discarded told.unrecognized
  of_leaving ended =
      let r = leaves_adds past i octets lldpdu hears is sound ended before after was now in
      let none = t.gone ended in
      (risen _ _ _ _ r.tlvs_discarded none.discarded, risen _ _ _ _ r.unrecognized none.unrecognized)

  of_living : 0 < ttl_of lldpdu → HaveRisen before after told.discarded told.unrecognized
  of_living lives = elim (cases_lt 0 (discarded_of lldpdu)) [
    | inl some ↦
        let r = faulty_adds past i octets lldpdu hears is sound lives some before after was now in
        (risen _ _ _ _ r.tlvs_discarded (t.life lives).discarded, risen _ _ _ _ r.unrecognized (t.life lives).unrecognized)
    | inr none ↦
        let all : discarded_of lldpdu ≡ 0 = omega (arith, none) in
        let r = whole_adds past i octets lldpdu hears is sound lives all before after was now in
        (risen _ _ _ _ r.tlvs_discarded ((t.life lives).discarded ∙ all), risen _ _ _ _ r.unrecognized (t.life lives).unrecognized)
  ]

  counted : HaveRisen before after told.discarded told.unrecognized
  counted = elim (cases_lt 0 (ttl_of lldpdu)) [ inl lives ↦ of_living lives | inr none ↦ of_leaving (omega (arith, none)) ]

module _ (octets chassis port : List ℕ) (ttl : ℕ) (us : List TlvUnit) (told : LldpaExamined) (back : IsReadBack (put_all (begun chassis port ttl) us) octets) (t : Tells octets told) where
  draft_is : put_all (begun chassis port ttl) us ≡ with_those (begun chassis port ttl) (put_faults (begun chassis port ttl) us) us
  draft_is = put_is (begun chassis port ttl) us

  ttl_given : ttl_of octets ≡ ttl
  ttl_given = back.ttl ∙ ap (λ (d : Draft). d.ttl) draft_is

  none_discarded : told.discarded ≡ 0
  none_discarded = elim (cases_lt 0 (ttl_of octets)) [
    | inl lives ↦ (t.life lives).discarded ∙ ap (λ (info : LldpInfo). info.discarded) back.info
    | inr none ↦ (t.gone (omega (arith, none))).discarded
  ]

  tells_built : TellsBuilt octets chassis port ttl (those_put (put_faults (begun chassis port ttl) us) us) told
  tells_built = record {
    ttl_is = t.ttl ∙ ttl_given;
    chassis_is = t.chassis.held ∙ ap (λ (m : MsapId). m.chassis) back.msap ∙ ap (λ (d : Draft). d.msap.chassis) draft_is;
    port_is = t.port.held ∙ ap (λ (m : MsapId). m.port) back.msap ∙ ap (λ (d : Draft). d.msap.port) draft_is;
    discarded = none_discarded;
    unrecognized = λ lives.
        (t.life (omega (arith, lives, ttl_given))).unrecognized ∙ ap (λ (info : LldpInfo). info.unrecognized) back.info
        ∙ ap (λ (d : Draft). count_unrecognized d.tlvs) draft_is;
  }

pub returns-clause-examined : goal.returns-clause-examined
returns-clause-examined c = record {
  counted = λ past i octets lldpdu told_before told before after x hears is was now.
      let sound = no_fault _ x.answer_is in counted past i octets lldpdu told before after (x.right sound) sound hears is was now;
  built = λ chassis port faults_before faults room_before room ttl written_before written answer tlvs told_before told b x.
      let back = b.back refl in
      (x.answer_is ∙ ap examined_number back.sound, tells_built (take written room) chassis port ttl (map tlv_of tlvs) told back (x.right back.sound));
}

-- ---- walks

all_left : (octets : List ℕ) (walk : LldpaKept) (us : List TlvUnit) → Finds octets walk us → left_of octets walk ≡ us
all_left octets walk [] f = f.1.ended refl
all_left octets walk (u ∷ us) f =
    f.1.given refl ∙ ap (λ (v : TlvUnit). v ∷ left_of octets f.0) (sym f.2) ∙ ap (λ (vs : List TlvUnit). u ∷ vs) (all_left octets f.0 us f.3)

pub returns-clause-walked : goal.returns-clause-walked
returns-clause-walked c = record {
  whole = λ octets walk us fits e n m f. sym (all_left octets walk us f) ∙ begins_whole octets walk fits e n m;
}
