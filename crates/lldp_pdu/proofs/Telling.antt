-- The extent of a sound LLDPDU has the same contents as the LLDPDU.
use Rattle.std.proofs.Common.{◌≡◌, ℕ, ◌+◌, ◌*◌, ◌<◌, ◌≤◌, Bool, true, false, cond, ◌&&◌, leb, eqb, List, [], ◌∷◌, length, drop, get_or, None, refl, sym, ap, subst, ◌∙◌, arith}
use Rattle.std.specs.List.{list_any, AllByRecursion}
use Rattle.std.proofs.lemmas.Bool.{not-false, eqb-true, lt-leb, true≢false, ltb-false, and_right, and_parts, leb-true, lt-ltb, or_parts}
use Rattle.std.proofs.lemmas.List.{append-nil, length-append}
use Rattle.lldp_pdu.specs.declared.fault.PduFault.{PduFault}
use Rattle.lldp_pdu.specs.declared.fault.PduFault.TheVariants.{Truncated}
use Rattle.lldp_pdu.specs.Tlv.{TlvUnit, IsTlv, spelling, spellings, AreOctets}
use Rattle.lldp_pdu.specs.Cut.{Cut, cut, cut_within}
use Rattle.lldp_pdu.specs.Check.{Check, first_fault}
use Rattle.lldp_pdu.specs.Lldpdu.{is_end, before_end, extent_tlvs, extent, ended_incomplete, tlv_at, seconds, ttl_of, msap_of, later_tlvs}
use Rattle.lldp_pdu.specs.Msap.{MsapId, IsIdentifier}
use Rattle.lldp_pdu.specs.Fault.{checks, fault_of, is_mandatory}
use Rattle.lldp_pdu.specs.Kept.{count_unrecognized, kept_after, others_after, kept_of, discarded_of, IsKeptTlv}
use Rattle.lldp_pdu.specs.Info.{info_of, IsInfo, TellsItself}
use Rattle.lldp_pdu.proofs.Surveying.{extent_is_front}
use Rattle.lldp_pdu.proofs.Cuts.{AreOctets-left, cut_is_cut, cut-spellings}
use Rattle.lldp_pdu.proofs.Opening.{fault_from}
use Rattle.lldp_pdu.proofs.Keeping.{kept_and_others}
use Rattle.std.proofs.lemmas.Grind.{common_steps}

-- ---- an LLDPDU without a fault begins with the mandatory TLVs

abbrev no_check : Check PduFault
no_check = record { fails = false; fault = Truncated }

-- without a fault, every check passes
all_pass : (cs : List (Check PduFault)) → first_fault cs ≡ None → (i : ℕ) → (get_or cs i no_check).fails ≡ false
all_pass [] h i = refl
all_pass (c ∷ cs) h i = grind (arith, common_steps, all_pass cs)

pub record Opened (us : List TlvUnit) : Type 0 where
  pub chassis : TlvUnit
  pub port : TlvUnit
  pub ttl : TlvUnit
  pub others : List TlvUnit
  pub parts : us ≡ chassis ∷ port ∷ ttl ∷ others
  pub chassis_kind : chassis.kind ≡ 1
  pub port_kind : port.kind ≡ 2
  pub ttl_kind : ttl.kind ≡ 3
  pub chassis_fits : IsIdentifier chassis.body
  pub port_fits : IsIdentifier port.body
  pub ttl_fits : 2 ≤ length ttl.body

pub sound_opens : (us : List TlvUnit) (ttl : ℕ) (later : List TlvUnit) → first_fault (checks us ttl later) ≡ None → Opened us
sound_opens us ttl later h = grind (arith, common_steps, all_pass, true≢false, eqb-true, not-false, and_parts, leb-true, ltb-false)

-- ---- the cut of the extent

before_end-again : (us : List TlvUnit) → before_end (before_end us) ≡ before_end us
before_end-again [] = refl
before_end-again (u ∷ us) = grind (arith, common_steps, before_end-again us)

pub tlvs_before_end : (us : List TlvUnit) → AllByRecursion IsTlv us → AllByRecursion IsTlv (before_end us)
tlvs_before_end [] h = tt
tlvs_before_end (u ∷ us) h = grind (arith, common_steps, tlvs_before_end us h.1)

-- the cut of encoded TLVs has exactly these TLVs and no rest
pub cut_alone : (us : List TlvUnit) → AllByRecursion IsTlv us → cut (spellings us) ≡ record { tlvs = us; rest = [] }
unfolding cut cut_within
cut_alone us h =
    ap cut (sym (append-nil (spellings us))) ∙ cut-spellings us [] h ∙ ap (λ (vs : List TlvUnit). record { tlvs = vs; rest = [] }) (append-nil us)

pub cut_extent : (octets : List ℕ) → AreOctets octets → cut (extent octets) ≡ record { tlvs = extent_tlvs octets; rest = [] }
unfolding extent
cut_extent octets fits = cut_alone (extent_tlvs octets) (tlvs_before_end (cut octets).tlvs (cut_is_cut octets fits).complete)

-- ---- the contents of the extent

pub extent-again : (octets : List ℕ) → AreOctets octets → extent (extent octets) ≡ extent octets
unfolding extent
extent-again octets fits = ap (λ (c : Cut). spellings (before_end c.tlvs)) (cut_extent octets fits) ∙ ap spellings (before_end-again (cut octets).tlvs)

pub later-again : (octets : List ℕ) → AreOctets octets → later_tlvs (extent octets) ≡ later_tlvs octets
unfolding later_tlvs
later-again octets fits = ap (λ (c : Cut). drop 3 (before_end c.tlvs)) (cut_extent octets fits) ∙ ap (drop 3) (before_end-again (cut octets).tlvs)

pub kept-again : (octets : List ℕ) → AreOctets octets → kept_of (extent octets) ≡ kept_of octets
unfolding kept_of
kept-again octets fits = ap (kept_after []) (later-again octets fits)

-- the extent begins with the mandatory TLVs
opened_extent : (octets : List ℕ) (o : Opened (cut octets).tlvs) → extent_tlvs octets ≡ o.chassis ∷ o.port ∷ o.ttl ∷ before_end o.others
opened_extent octets o = ap before_end o.parts ∙ rw (o.chassis_kind, o.port_kind, o.ttl_kind) refl

-- the checks depend on the TLVs after the third only through `later`
same_checks : (a b d : TlvUnit) (us vs : List TlvUnit) (ttl : ℕ) (later : List TlvUnit) → first_fault (checks (a ∷ b ∷ d ∷ us) ttl later) ≡ first_fault (checks (a ∷ b ∷ d ∷ vs) ttl later)
same_checks a b d us vs ttl later = grind (arith, common_steps, lt-leb)

-- equations that unfold the definitions
pub ttl_tlvs : (octets : List ℕ) → ttl_of octets ≡ seconds (tlv_at (cut octets).tlvs 2).body
unfolding ttl_of
ttl_tlvs octets = refl

pub msap_tlvs : (octets : List ℕ) → msap_of octets ≡ record { chassis = (tlv_at (cut octets).tlvs 0).body; port = (tlv_at (cut octets).tlvs 1).body }
unfolding msap_of
msap_tlvs octets = refl

pub fault_tlvs : (octets : List ℕ) → first_fault (checks (cut octets).tlvs (ttl_of octets) (later_tlvs octets)) ≡ fault_of octets
unfolding fault_of
fault_tlvs octets = refl

fewer_discarded : (octets : List ℕ) → AreOctets octets → discarded_of (extent octets) ≤ discarded_of octets
unfolding discarded_of ended_incomplete
fewer_discarded octets fits = grind (arith, common_steps, later-again, cut_extent, and_right)

-- the extent has the same TTL, MSAP identifier and fault as the octets
record Again (octets : List ℕ) : Type 0 where
  pub ttl : ttl_of (extent octets) ≡ ttl_of octets
  pub msap : msap_of (extent octets) ≡ msap_of octets
  pub fault : fault_of (extent octets) ≡ fault_of octets

again : (octets : List ℕ) → AreOctets octets → Opened (cut octets).tlvs → Again octets
again octets fits o =
    let us : extent_tlvs octets ≡ o.chassis ∷ o.port ∷ o.ttl ∷ before_end o.others = opened_extent octets o in
    let c : cut (extent octets) ≡ record { tlvs = o.chassis ∷ o.port ∷ o.ttl ∷ before_end o.others; rest = [] } = cut_extent octets fits ∙ ap (λ (vs : List TlvUnit). record { tlvs = vs; rest = [] }) us in
    let ttl_here : ttl_of octets ≡ seconds o.ttl.body = ttl_is octets o.chassis o.port o.ttl o.others o.parts in
    let ttl_there : ttl_of (extent octets) ≡ seconds o.ttl.body = ttl_is (extent octets) o.chassis o.port o.ttl (before_end o.others) (ap (λ (c : Cut). c.tlvs) c) in
    let same_ttl : ttl_of (extent octets) ≡ ttl_of octets = ttl_there ∙ sym ttl_here in
    record {
      ttl = same_ttl;
      msap = msap_is (extent octets) o.chassis o.port o.ttl (before_end o.others) (ap (λ (c : Cut). c.tlvs) c) ∙ sym (msap_is octets o.chassis o.port o.ttl o.others o.parts);
      fault =
          fault_from (extent octets) (o.chassis ∷ o.port ∷ o.ttl ∷ before_end o.others) (ttl_of octets) (ap (λ (c : Cut). c.tlvs) c) same_ttl
          ∙ ap (λ (later : List TlvUnit). first_fault (checks (o.chassis ∷ o.port ∷ o.ttl ∷ before_end o.others) (ttl_of octets) later)) (later-again octets fits)
          ∙ same_checks o.chassis o.port o.ttl (before_end o.others) o.others (ttl_of octets) (later_tlvs octets)
          ∙ sym (fault_from octets (o.chassis ∷ o.port ∷ o.ttl ∷ o.others) (ttl_of octets) o.parts refl);
    }
  where
    ttl_is : (octets : List ℕ) (a b d : TlvUnit) (us : List TlvUnit) → (cut octets).tlvs ≡ a ∷ b ∷ d ∷ us → ttl_of octets ≡ seconds d.body
    ttl_is octets a b d us e = ttl_tlvs octets ∙ ap (λ (vs : List TlvUnit). seconds (tlv_at vs 2).body) e

    msap_is : (octets : List ℕ) (a b d : TlvUnit) (us : List TlvUnit) → (cut octets).tlvs ≡ a ∷ b ∷ d ∷ us → msap_of octets ≡ record { chassis = a.body; port = b.body }
    msap_is octets a b d us e = msap_tlvs octets ∙ ap (λ (vs : List TlvUnit). record { chassis = (tlv_at vs 0).body; port = (tlv_at vs 1).body }) e

-- ---- which TLVs are kept

-- the TLV is neither an End Of LLDPDU nor mandatory
record IsLater (u : TlvUnit) : Type 0 where
  pub tlv : IsTlv u
  pub not_end : is_end u ≡ false
  pub not_mandatory : is_mandatory u ≡ false

pub later_kind : (kind : ℕ) → eqb kind 0 ≡ false → (leb 1 kind && leb kind 3) ≡ false → 4 ≤ kind
later_kind kind h k = grind (arith, common_steps, true≢false)

all_later : (us : List TlvUnit) → AllByRecursion IsTlv us → list_any is_mandatory (before_end us) ≡ false → AllByRecursion IsLater (before_end us)
all_later [] h m = tt
all_later (u ∷ us) h m = go (is_end u) refl m (all_later us h.1)
  where
    go : (b : Bool) → is_end u ≡ b → list_any is_mandatory (cond b [] (u ∷ before_end us)) ≡ false → (list_any is_mandatory (before_end us) ≡ false → AllByRecursion IsLater (before_end us)) → AllByRecursion IsLater (cond b [] (u ∷ before_end us))
    go true e m below = tt
    go false e m below = let p = or_parts (is_mandatory u) (list_any is_mandatory (before_end us)) m in (record { tlv = h.0; not_end = e; not_mandatory = p.0 }, below p.1)

kept_tlvs : (earlier us : List TlvUnit) → AllByRecursion IsLater us → AllByRecursion IsKeptTlv (kept_after earlier us)
kept_tlvs earlier [] h = tt
kept_tlvs earlier (u ∷ us) h = grind (arith, common_steps, later_kind, and_parts, kept_tlvs (u ∷ earlier) us h.1)

pub kept_tlvs_of : (octets : List ℕ) → kept_of octets ≡ kept_after [] (later_tlvs octets)
unfolding kept_of
kept_tlvs_of octets = refl

later_of : (octets : List ℕ) → later_tlvs octets ≡ drop 3 (extent_tlvs octets)
unfolding later_tlvs
later_of octets = refl

extent_octets : (octets : List ℕ) → AreOctets octets → AreOctets (extent octets)
unfolding extent
extent_octets octets fits = let f = extent_is_front octets fits in AreOctets-left (extent octets) f.0 (subst AreOctets f.1 fits)

-- ---- bounds of the numbers of TLVs

tlvs_fewer : (us : List TlvUnit) → 2 * length us ≤ length (spellings us)
tlvs_fewer [] = omega arith
tlvs_fewer (u ∷ us) = omega (arith, tlvs_fewer us, length-append (spelling u) (spellings us))

-- the three mandatory TLVs have at least 4 octets each, and the others at least 2
later_fewer : (octets : List ℕ) → Opened (cut octets).tlvs → 12 + 2 * length (later_tlvs octets) ≤ length (extent octets)
unfolding extent
later_fewer octets o = grind (arith, common_steps, later_of, opened_extent, tlvs_fewer, length-append)

few_kept : (octets : List ℕ) → Opened (cut octets).tlvs → 12 + 2 * length (kept_of octets) ≤ length (extent octets)
unfolding kept_of
few_kept octets o = omega (arith, later_fewer octets o, kept_and_others [] (later_tlvs octets))

few_discarded : (octets : List ℕ) → Opened (cut octets).tlvs → 10 + 2 * discarded_of octets ≤ length (extent octets)
unfolding discarded_of
few_discarded octets o = go (ended_incomplete octets)
  where
    go : (b : Bool) → 10 + 2 * (length (others_after [] (later_tlvs octets)) + cond b 1 0) ≤ length (extent octets)
    go true = omega (arith, later_fewer octets o, kept_and_others [] (later_tlvs octets))
    go false = omega (arith, later_fewer octets o, kept_and_others [] (later_tlvs octets))

few_unrecognized : (us : List TlvUnit) → count_unrecognized us ≤ length us
few_unrecognized [] = omega arith
few_unrecognized (u ∷ us) = grind (arith, common_steps, few_unrecognized us)

pub sound_last : (us : List TlvUnit) (ttl : ℕ) (later : List TlvUnit) → first_fault (checks us ttl later) ≡ None → 0 < ttl → list_any is_mandatory later ≡ false
sound_last us ttl later h l = grind (arith, common_steps, all_pass, lt-ltb)

-- The extent of a sound LLDPDU has the same contents as the LLDPDU.
pub tells_itself : (octets : List ℕ) → AreOctets octets → fault_of octets ≡ None → 0 < ttl_of octets → IsInfo (info_of octets) × TellsItself (info_of octets)
tells_itself octets fits sound lives =
    let checked = fault_tlvs octets ∙ sound in
    let o = sound_opens (cut octets).tlvs (ttl_of octets) (later_tlvs octets) checked in
    let a = again octets fits o in
    let later : later_tlvs octets ≡ before_end o.others = later_of octets ∙ ap (drop 3) (opened_extent octets o) in
    let tlvs : AllByRecursion IsTlv o.others = (subst (AllByRecursion IsTlv) o.parts (cut_is_cut octets fits).complete).1.1.1 in
    let no_more : list_any is_mandatory (before_end o.others) ≡ false = ap (list_any is_mandatory) (sym later) ∙ sound_last (cut octets).tlvs (ttl_of octets) (later_tlvs octets) checked lives in
    let named : msap_of octets ≡ record { chassis = o.chassis.body; port = o.port.body } = msap_tlvs octets ∙ ap (λ (vs : List TlvUnit). record { chassis = (tlv_at vs 0).body; port = (tlv_at vs 1).body }) o.parts in (
      record {
        lives = lives;
        chassis = subst IsIdentifier (sym (ap (λ (m : MsapId). m.chassis) named)) o.chassis_fits;
        port = subst IsIdentifier (sym (ap (λ (m : MsapId). m.port) named)) o.port_fits;
        kept = subst (AllByRecursion IsKeptTlv) (sym (kept_tlvs_of octets ∙ ap (kept_after []) later)) (kept_tlvs [] (before_end o.others) (all_later o.others tlvs no_more));
        few = few_kept octets o;
        few_discarded = few_discarded octets o;
        few_unrecognized = few_unrecognized (kept_of octets);
      },
      record {
        are_octets = extent_octets octets fits;
        sound = a.fault ∙ sound;
        msap = a.msap;
        ttl = a.ttl;
        extent = extent-again octets fits;
        kept = kept-again octets fits;
        unrecognized = refl;
        discarded = fewer_discarded octets fits;
      },
    )
