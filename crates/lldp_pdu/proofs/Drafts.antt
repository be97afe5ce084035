-- An LLDPDU built from a draft is sound, and examining it returns the contents of the draft.
use Rattle.std.proofs.Common.{◌≡◌, ℕ, ◌+◌, ◌^◌, ◌<◌, ◌≤◌, Bool, true, false, cond, not, ◌&&◌, ◌||◌, ltb, leb, eqb, List, [], ◌∷◌, ◌++◌, length, drop, Option, Some, None, refl, sym, ap, subst, ◌∙◌, append_assoc, arith}
use Rattle.std.specs.List.{list_any, AllByRecursion}
use Rattle.std.specs.Int.{w16, to_be_bytes}
use Rattle.std.proofs.lemmas.Bool.{le-leb, le-ltb, and_parts, leb-true, eqb-false, eq-eqb, ne_eqb, and_right, or_right, lt-leb, lt-ltb, ltb-false, true≢false}
use Rattle.std.proofs.lemmas.List.{length-append, append-nil, flat_map_more}
use Rattle.std.proofs.lemmas.List.Folds.{list_any-append}
use Rattle.std.proofs.Math.Bool.{or-false}
use Rattle.lldp_pdu.specs.declared.fault.PduFault.TheVariants.{Repeated}
use Rattle.lldp_pdu.specs.declared.fault.BuildFault.{BuildFault}
use Rattle.lldp_pdu.specs.declared.fault.BuildFault.TheVariants.{Full, Kind, Body}
use Rattle.lldp_pdu.specs.Tlv.{TlvUnit, IsTlv, spelling, spellings}
use Rattle.lldp_pdu.specs.Cut.{Cut, cut, cut_within}
use Rattle.lldp_pdu.specs.Range.{is_between}
use Rattle.lldp_pdu.specs.WellFormed.{is_well_formed}
use Rattle.lldp_pdu.specs.Lldpdu.{is_end, before_end, extent, ended_incomplete, tlv_at, seconds, ttl_of, msap_of, later_tlvs}
use Rattle.lldp_pdu.specs.Msap.{MsapId, IsIdentifier}
use Rattle.lldp_pdu.specs.Fault.{is_mandatory}
use Rattle.lldp_pdu.specs.Kept.{is_single, has_well_formed, kept_after, others_after, kept_of, discarded_of, count_unrecognized, IsKeptTlv}
use Rattle.lldp_pdu.specs.Info.{LldpInfo}
use Rattle.lldp_pdu.specs.Code.Seen.{Flags, none_seen, with_flag}
use Rattle.lldp_pdu.specs.Draft.{Draft, all_tlvs, end_of_lldpdu, lldpdu_octets, with_tlv, was_put, put_fault, CanPut, CanPutEach, CanBuild, IsReadBack}
use Rattle.lldp_pdu.specs.Code.BuilderView.{draft_of, AllKept, IsDraft, Builds}
use Rattle.lldp_pdu.proofs.Cuts.{cut-spellings}
use Rattle.lldp_pdu.proofs.Opening.{fault_from, sound_checks}
use Rattle.lldp_pdu.proofs.Keeping.{flags_none, flags_more, flags_as}
use Rattle.lldp_pdu.proofs.Telling.{cut_alone, ttl_tlvs, msap_tlvs, kept_tlvs_of}
use Rattle.lldp_pdu.proofs.Whole.{discarded_is}
use Rattle.std.proofs.lemmas.Grind.{common_steps}

-- ---- the TLVs of a draft

optional_tlvs : (us : List TlvUnit) → AllByRecursion IsKeptTlv us → AllByRecursion IsTlv us
optional_tlvs [] h = tt
optional_tlvs (u ∷ us) h = (record { kind = omega (arith, h.0.greatest); body = omega (arith, h.0.short) }, optional_tlvs us h.1)

draft_tlvs : (d : Draft) → IsDraft d → AllByRecursion IsTlv (all_tlvs d)
draft_tlvs d h = grind (arith, common_steps, optional_tlvs)

seconds_back : (ttl : ℕ) → ttl < 2 ^ 16 → seconds (to_be_bytes w16 ttl) ≡ ttl
seconds_back ttl h = omega (arith, h)

cut_draft : (d : Draft) → IsDraft d → cut (spellings (all_tlvs d)) ≡ record { tlvs = all_tlvs d; rest = [] }
cut_draft d h = cut_alone (all_tlvs d) (draft_tlvs d h)

pub builds : (d : Draft) (octets : List ℕ) (met : List Bool) (lives : Bool) → octets ≡ spellings (all_tlvs d) → IsDraft d → length octets + 2 ≤ 1500 → Flags met (λ kind. was_put kind d.tlvs) → lives ≡ ltb 0 d.ttl → Builds octets met lives × (draft_of octets ≡ d)
unfolding draft_of
builds d octets met lives e h room flags l = grind (arith, common_steps, cut_draft, ttl_tlvs, seconds_back, msap_tlvs)

-- ---- beginning a draft

abbrev pub begun : List ℕ → List ℕ → ℕ → Draft
begun chassis port ttl = record { msap = record { chassis = chassis; port = port }; ttl = ttl; tlvs = [] }

pub begins : (chassis port octets : List ℕ) (ttl : ℕ) → IsIdentifier chassis → IsIdentifier port → ttl < 2 ^ 16
    → octets ≡ spelling (record { kind = 1; body = chassis }) ++ spelling (record { kind = 2; body = port }) ++ spelling (record { kind = 3; body = to_be_bytes w16 ttl })
    → Builds octets none_seen (ltb 0 ttl) × (draft_of octets ≡ begun chassis port ttl)
begins chassis port octets ttl h k l e =
    let a = spelling (record { kind = 1; body = chassis }) in
    let b = spelling (record { kind = 2; body = port }) in
    let c = spelling (record { kind = 3; body = to_be_bytes w16 ttl }) in
    let spelled : octets ≡ spellings (all_tlvs (begun chassis port ttl)) = e ∙ append_assoc a b c ∙ ap (λ (x : List ℕ). a ++ (b ++ x)) (sym (append-nil c)) in
    let len : length octets ≡ length a + length b + length c = ap length e ∙ (length-append (a ++ b) c ∙ ap (λ (n : ℕ). n + length c) (length-append a b)) in
    builds (begun chassis port ttl) octets none_seen (ltb 0 ttl) spelled (record { chassis = h; port = k; ttl = l; tlvs = tt; kept = tt }) (omega (arith, len, h.greatest, k.greatest)) flags_none refl

-- ---- adding a TLV to a draft

put_spells : (d : Draft) (u : TlvUnit) → spellings (all_tlvs d) ++ spelling u ≡ spellings (all_tlvs (with_tlv d u))
put_spells d u = flat_map_more spelling [] (all_tlvs d) u

pub put_length : (d : Draft) (u : TlvUnit) → length (lldpdu_octets (with_tlv d u)) ≡ length (spellings (all_tlvs d)) + length u.body + 4
put_length d u = grind (arith, common_steps, length-append, put_spells)

-- the fault of `put`, given the outcome of each check
abbrev decided : Bool → Bool → Bool → Bool → Bool → Bool → Option BuildFault
decided a b c d e f = cond (not a || b || c) (Some Kind) (cond (d || not e) (Some Body) (cond f (Some Full) None))

pub put_fault_is : (d : Draft) (u : TlvUnit) (a b c e f g : Bool) → is_between 4 u.kind 127 ≡ a → eqb d.ttl 0 ≡ b → (is_single u.kind && was_put u.kind d.tlvs) ≡ c → ltb 511 (length u.body) ≡ e → is_well_formed u ≡ f → ltb 1500 (length (lldpdu_octets (with_tlv d u))) ≡ g
    → put_fault d u ≡ decided a b c e f g
unfolding put_fault
put_fault_is d u a b c e f g p q r s t v = grind (arith, common_steps)

-- a TLV that passes the checks can be put, and a TLV that can be put passes them
pub passes : (d : Draft) (u : TlvUnit) → put_fault d u ≡ None → CanPut d u
passes d u h = grind (arith, common_steps, put_fault_is, and_parts, leb-true, eqb-false, ltb-false, put_length)

pub can_put : (d : Draft) (u : TlvUnit) → CanPut d u → put_fault d u ≡ None
can_put d u h = grind (arith, common_steps, put_fault_is, ne_eqb, le-ltb, put_length, le-leb)

-- the length of the LLDPDU with one more TLV, computed from the builder's octets
pub long : (d : Draft) (u : TlvUnit) (octets : List ℕ) (met : List Bool) (lives : Bool) → draft_of octets ≡ d → Builds octets met lives → length (lldpdu_octets (with_tlv d u)) ≡ length octets + length u.body + 4
long d u octets met lives v b = put_length d u ∙ ap (λ (n : ℕ). n + length u.body + 4) (sym (ap length (b.spelled ∙ ap (λ (d : Draft). spellings (all_tlvs d)) v)))

-- `lives` is false exactly if the TTL is 0
pub tells_shutdown : (d : Draft) (octets : List ℕ) (met : List Bool) (lives : Bool) → Builds octets met lives → draft_of octets ≡ d → not lives ≡ eqb d.ttl 0
tells_shutdown d octets met lives b v = grind (arith, common_steps, ne_eqb, eq-eqb, lt-ltb, le-ltb)

-- ---- a draft stays valid with one more TLV

optional_more : (us : List TlvUnit) (u : TlvUnit) → AllByRecursion IsKeptTlv us → IsKeptTlv u → AllByRecursion IsKeptTlv (us ++ u ∷ [])
optional_more [] u h k = (k, tt)
optional_more (v ∷ us) u h k = (h.0, optional_more us u h.1 k)

earlier_more : (s a w f h : Bool) → (s && ((a || w) || h)) ≡ false → (s && (w || ((a && f) || h))) ≡ false
earlier_more s a w f h e = grind (arith, common_steps, true≢false)

kept_more : (earlier us : List TlvUnit) (u : TlvUnit) → AllKept earlier us → is_well_formed u ≡ true → (is_single u.kind && (was_put u.kind us || has_well_formed u.kind earlier)) ≡ false → AllKept earlier (us ++ u ∷ [])
kept_more earlier [] u h w e = (rw (w, e) refl, tt)
kept_more earlier (v ∷ us) u h w e = (h.0, kept_more (v ∷ earlier) us u h.1 w (earlier_more (is_single u.kind) (eqb v.kind u.kind) (was_put u.kind us) (is_well_formed v) (has_well_formed u.kind earlier) e))

was_put_more : (kind : ℕ) (us : List TlvUnit) (u : TlvUnit) → was_put kind (us ++ u ∷ []) ≡ (was_put kind us || eqb u.kind kind)
was_put_more kind us u = list_any-append (λ v. eqb v.kind kind) us (u ∷ []) ∙ ap (λ (b : Bool). was_put kind us || b) (or-false (eqb u.kind kind))

flags_put : (met : List Bool) (us : List TlvUnit) (u : TlvUnit) → Flags met (λ kind. was_put kind us) → Flags (with_flag met u.kind) (λ kind. was_put kind (us ++ u ∷ []))
flags_put met us u f = flags_as (with_flag met u.kind) _ _ (λ kind. sym (was_put_more kind us u)) (flags_more met (λ kind. was_put kind us) u.kind f)

draft_more : (d : Draft) (u : TlvUnit) → IsDraft d → CanPut d u → IsDraft (with_tlv d u)
draft_more d u draft p = grind (arith, common_steps, optional_more, kept_more, or-false)

pub puts : (d : Draft) (u : TlvUnit) (old octets : List ℕ) (met : List Bool) (lives : Bool) → draft_of old ≡ d → Builds old met lives → put_fault d u ≡ None → octets ≡ old ++ spelling u
    → Builds octets (with_flag met u.kind) lives × (draft_of octets ≡ with_tlv d u)
puts d u old octets met lives v b h e =
    let p = passes d u h in
    let draft : IsDraft d = subst IsDraft v b.draft in
    let flags : Flags met (λ kind. was_put kind d.tlvs) = subst (λ (d : Draft). Flags met (λ kind. was_put kind d.tlvs)) v b.flags in
    let spelled : octets ≡ spellings (all_tlvs (with_tlv d u)) = e ∙ ap (λ (x : List ℕ). x ++ spelling u) (b.spelled ∙ ap (λ (d : Draft). spellings (all_tlvs d)) v) ∙ put_spells d u in
    let len : length octets + 2 ≡ length (lldpdu_octets (with_tlv d u)) = ap (λ (n : ℕ). n + 2) (ap length spelled) ∙ sym (length-append (spellings (all_tlvs (with_tlv d u))) (spelling end_of_lldpdu)) in
    builds (with_tlv d u) octets (with_flag met u.kind) lives spelled (draft_more d u draft p)
    (omega (arith, len, put_length d u, p.room)) (flags_put met d.tlvs u flags) (b.lives_is ∙ ap (λ (d : Draft). ltb 0 d.ttl) v)

-- ---- finishing a draft

no_mandatory : (us : List TlvUnit) → AllByRecursion IsKeptTlv us → list_any is_mandatory us ≡ false
no_mandatory [] h = refl
no_mandatory (u ∷ us) h = rw (lt-leb u.kind 3 (omega (arith, h.0.least)), no_mandatory us h.1) (ap (λ (b : Bool). b || false) (and_right (leb 1 u.kind) false refl))

before_end_more : (us : List TlvUnit) → AllByRecursion IsKeptTlv us → before_end (us ++ end_of_lldpdu ∷ []) ≡ us
before_end_more [] h = refl
before_end_more (u ∷ us) h = rw (ne_eqb u.kind 0 (λ z. omega (arith, z, h.0.least)), before_end_more us h.1) refl

end_there : (us : List TlvUnit) → list_any is_end (us ++ end_of_lldpdu ∷ []) ≡ true
end_there us = list_any-append is_end us (end_of_lldpdu ∷ []) ∙ or_right (list_any is_end us) true refl

kept_same : (earlier us : List TlvUnit) → AllKept earlier us → kept_after earlier us ≡ us
kept_same earlier [] h = refl
kept_same earlier (u ∷ us) h = rw h.0 (ap (λ (vs : List TlvUnit). u ∷ vs) (kept_same (u ∷ earlier) us h.1))

others_none : (earlier us : List TlvUnit) → AllKept earlier us → others_after earlier us ≡ []
others_none earlier [] h = refl
others_none earlier (u ∷ us) h = rw h.0 (others_none (u ∷ earlier) us h.1)

cut_end : cut (spelling end_of_lldpdu) ≡ record { tlvs = end_of_lldpdu ∷ []; rest = [] }
unfolding cut cut_within
cut_end = refl

pub later_from : (octets : List ℕ) (us : List TlvUnit) → (cut octets).tlvs ≡ us → later_tlvs octets ≡ drop 3 (before_end us)
unfolding later_tlvs
later_from octets us e = ap (λ (us : List TlvUnit). drop 3 (before_end us)) e

extent_from : (octets : List ℕ) (us : List TlvUnit) → (cut octets).tlvs ≡ us → extent octets ≡ spellings (before_end us)
unfolding extent
extent_from octets us e = ap (λ (us : List TlvUnit). spellings (before_end us)) e

complete_from : (octets : List ℕ) (us : List TlvUnit) → (cut octets).tlvs ≡ us → list_any is_end us ≡ true → ended_incomplete octets ≡ false
unfolding ended_incomplete
complete_from octets us e h = let k : list_any is_end (cut octets).tlvs ≡ true = ap (list_any is_end) e ∙ h in rw k refl

pub finished : (d : Draft) (octets : List ℕ) → IsDraft d → octets ≡ lldpdu_octets d → IsReadBack d octets
finished d octets h e =
    let c : cut octets ≡ record { tlvs = all_tlvs d ++ end_of_lldpdu ∷ []; rest = [] } =
    ap cut e ∙ cut-spellings (all_tlvs d) (spelling end_of_lldpdu) (draft_tlvs d h) ∙ ap (λ (c : Cut). record { tlvs = all_tlvs d ++ c.tlvs; rest = c.rest }) cut_end in
    let us : (cut octets).tlvs ≡ all_tlvs d ++ end_of_lldpdu ∷ [] = ap (λ (c : Cut). c.tlvs) c in
    let t : ttl_of octets ≡ d.ttl = ttl_tlvs octets ∙ ap (λ (us : List TlvUnit). seconds (tlv_at us 2).body) us ∙ seconds_back d.ttl h.ttl in
    let m : msap_of octets ≡ d.msap = msap_tlvs octets ∙ ap (λ (us : List TlvUnit). record { chassis = (tlv_at us 0).body; port = (tlv_at us 1).body }) us in
    let later : later_tlvs octets ≡ d.tlvs = later_from octets (all_tlvs d ++ end_of_lldpdu ∷ []) us ∙ before_end_more d.tlvs h.tlvs in
    let kept : kept_of octets ≡ d.tlvs = kept_tlvs_of octets ∙ ap (kept_after []) later ∙ kept_same [] d.tlvs h.kept in
    let extent_is : extent octets ≡ spellings (all_tlvs d) = extent_from octets (all_tlvs d ++ end_of_lldpdu ∷ []) us ∙ front (before_end_more d.tlvs h.tlvs) in
    let complete : ended_incomplete octets ≡ false = complete_from octets (all_tlvs d ++ end_of_lldpdu ∷ []) us (end_there (all_tlvs d)) in
    let lost : discarded_of octets ≡ 0 = discarded_is octets ∙ rw (complete, later, others_none [] d.tlvs h.kept) refl in
    record {
      sound = fault_from octets (all_tlvs d ++ end_of_lldpdu ∷ []) d.ttl us t
          ∙ sound_checks d.msap.chassis d.msap.port (to_be_bytes w16 d.ttl) (d.tlvs ++ end_of_lldpdu ∷ []) d.ttl (later_tlvs octets) h.chassis.least h.chassis.greatest h.port.least h.port.greatest (omega arith)
          ∙ rw (later, no_mandatory d.tlvs h.tlvs) (ap (λ (b : Bool). cond b (Some Repeated) None) (and_right (ltb 0 d.ttl) false refl));
      msap = m;
      ttl = t;
      info = same m t extent_is kept lost (ap count_unrecognized kept);
    }
  where
    front : before_end (d.tlvs ++ end_of_lldpdu ∷ []) ≡ d.tlvs → spellings (before_end (all_tlvs d ++ end_of_lldpdu ∷ [])) ≡ spellings (all_tlvs d)
    front h = ap (λ (us : List TlvUnit). spellings (record { kind = 1; body = d.msap.chassis } ∷ record { kind = 2; body = d.msap.port } ∷ record { kind = 3; body = to_be_bytes w16 d.ttl } ∷ us)) h

    same : {m m' : MsapId} {t t' : ℕ} {x x' : List ℕ} {k k' : List TlvUnit} {l l' u u' : ℕ} → m ≡ m' → t ≡ t' → x ≡ x' → k ≡ k' → l ≡ l' → u ≡ u'
        → ◌≡◌ {A = LldpInfo} (record { msap = m; ttl = t; octets = x; kept = k; discarded = l; unrecognized = u }) (record { msap = m'; ttl = t'; octets = x'; kept = k'; discarded = l'; unrecognized = u' })
    same p q r s t u = cc

-- ---- every draft that satisfies `CanBuild`

-- the octets of the draft leave room for the End Of LLDPDU
abbrev Fits : Draft → Type 0
Fits d = length (spellings (all_tlvs d)) + 2 ≤ 1500

fits_more : (d : Draft) (u : TlvUnit) → CanPut d u → Fits (with_tlv d u)
fits_more d u p = grind (arith, common_steps, put_spells, length-append)

all_put : (msap : MsapId) (ttl : ℕ) (before us : List TlvUnit) → (let d : Draft = record { msap = msap; ttl = ttl; tlvs = before } in IsDraft d × Fits d × CanPutEach d us)
    → (let d : Draft = record { msap = msap; ttl = ttl; tlvs = before ++ us } in IsDraft d × Fits d)
all_put msap ttl before [] h = rw (append-nil before) (h.0, h.1)
all_put msap ttl before (u ∷ us) h =
    let d : Draft = record { msap = msap; ttl = ttl; tlvs = before } in
    rw (sym (append_assoc before (u ∷ []) us)) (all_put msap ttl (before ++ u ∷ []) us (draft_more d u h.0 h.2.0, fits_more d u h.2.0, h.2.1))

begun_fits : (d : Draft) → IsIdentifier d.msap.chassis → IsIdentifier d.msap.port → Fits (begun d.msap.chassis d.msap.port d.ttl)
begun_fits d h k = grind (arith, common_steps, length-append)

pub built : (d : Draft) → CanBuild d → IsDraft d × Fits d
built d h =
    all_put d.msap d.ttl [] d.tlvs (record { chassis = h.chassis; port = h.port; ttl = h.ttl; tlvs = tt; kept = tt }, begun_fits d h.chassis h.port, h.puts)

pub built_short : (d : Draft) → CanBuild d → length (lldpdu_octets d) ≤ 1500
built_short d h = omega (arith, (built d h).1, length-append (spellings (all_tlvs d)) (spelling end_of_lldpdu))
