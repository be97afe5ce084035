-- The two steps of an examination together give the contents of the LLDPDU.
use Rattle.std.proofs.Common.{◌≡◌, ℕ, ◌+◌, ◌-◌, ◌<◌, ◌≤◌, Bool, cond, not, ◌&&◌, ltb, List, [], ◌++◌, length, take, drop, get_or, Some, None, refl, sym, ap, subst, ◌∙◌, arith}
use Rattle.std.specs.List.{list_any, AllByRecursion}
use Rattle.std.proofs.lemmas.Bool.{lt-ltb}
use Rattle.std.proofs.lemmas.List.{length-append, take_at, take-append-drop}
use Rattle.lldp_pdu.specs.declared.fault.PduFault.TheVariants.{Repeated}
use Rattle.lldp_pdu.specs.Tlv.{TlvUnit, IsTlv, spelling, spellings, AreOctets}
use Rattle.lldp_pdu.specs.Cut.{Cut, cut}
use Rattle.lldp_pdu.specs.Lldpdu.{is_end, before_end, extent, ended_incomplete, tlv_at, ttl_of, msap_of, later_tlvs}
use Rattle.lldp_pdu.specs.Msap.{MsapId}
use Rattle.lldp_pdu.specs.Fault.{is_mandatory, fault_of}
use Rattle.lldp_pdu.specs.Kept.{kept_after, others_after, kept_of, discarded_of, count_unrecognized}
use Rattle.lldp_pdu.specs.Info.{LldpInfo, info_of}
use Rattle.lldp_pdu.specs.Code.Seen.{none_seen, kept_seen}
use Rattle.lldp_pdu.specs.Code.Survey.{OpensWith, IsSurveyOf}
use Rattle.lldp_pdu.proofs.Cuts.{cut_is_cut, AreOctets-from_index, AreOctets-right}
use Rattle.lldp_pdu.proofs.Opening.{ttl_from}
use Rattle.lldp_pdu.proofs.Surveying.{extent_is_front}
use Rattle.lldp_pdu.proofs.Keeping.{kept_seen-none, count_lost-none}
use Rattle.lldp_pdu.proofs.Telling.{cut_alone, tlvs_before_end, msap_tlvs, kept_tlvs_of}

module _ (octets after : List ℕ) (msap : MsapId) (ttl : ℕ) (o : OpensWith octets msap ttl after) where
  pub ttl_is : ttl_of octets ≡ ttl
  ttl_is = ttl_from octets _ o.parts ∙ o.seconds_are

  pub msap_is : msap_of octets ≡ msap
  msap_is = msap_tlvs octets ∙ ap (λ (c : Cut). record { chassis = (tlv_at c.tlvs 0).body; port = (tlv_at c.tlvs 1).body }) o.parts

  pub later_is : later_tlvs octets ≡ before_end (cut after).tlvs
  unfolding later_tlvs
  later_is = ap (λ (c : Cut). drop 3 (before_end c.tlvs)) o.parts

  incomplete_is : ended_incomplete octets ≡ ended_incomplete after
  unfolding ended_incomplete
  incomplete_is = ap (λ (c : Cut). not (list_any is_end c.tlvs) && ltb 0 (length c.rest)) o.parts

  -- with a TTL above 0, only the last check can fail
  pub last_check : (r : Bool) → 0 < ttl → list_any is_mandatory (before_end (cut after).tlvs) ≡ r → fault_of octets ≡ cond r (Some Repeated) None
  last_check r p h = o.fault ∙ rw (later_is, h, lt-ltb 0 ttl p) refl

-- `found` holds the TLVs after the mandatory ones, and the extent ends where `found` ends
pub record Stands (octets after found : List ℕ) : Type 0 where
  pub within : length after ≤ length octets
  pub end : length octets - length after + length found ≤ length octets
  pub extent_is : take (length octets - length after + length found) octets ≡ extent octets
  pub optional : cut found ≡ record { tlvs = before_end (cut after).tlvs; rest = [] }

extent_parts : (octets after : List ℕ) (msap : MsapId) (ttl : ℕ) (o : OpensWith octets msap ttl after)
    → extent octets ≡ spelling (record { kind = 1; body = msap.chassis }) ++ (spelling (record { kind = 2; body = msap.port }) ++ (spelling (record { kind = 3; body = o.body }) ++ spellings (before_end (cut after).tlvs)))
unfolding extent
extent_parts octets after msap ttl o = ap (λ (c : Cut). spellings (before_end c.tlvs)) o.parts

pub extent_front : (octets : List ℕ) → AreOctets octets → (more : List ℕ) × (octets ≡ extent octets ++ more)
unfolding extent
extent_front octets fits = let f = extent_is_front octets fits in (f.0, f.1)

-- the length of four joined lists is the sum of their lengths
three_lengths : (a b d e : List ℕ) → length (a ++ (b ++ (d ++ e))) ≡ length a + length b + length d + length e
three_lengths a b d e = omega (arith, length-append a (b ++ (d ++ e)), length-append b (d ++ e), length-append d e)

pub stands : (octets after found : List ℕ) (msap : MsapId) (ttl lost unknown : ℕ) → ((i : ℕ) → get_or octets i 0 < 256) → OpensWith octets msap ttl after → IsSurveyOf after found lost unknown → Stands octets after found
stands octets after found msap ttl lost unknown bytes o s =
    let fits = AreOctets-from_index octets bytes in
    let fits_after : AreOctets after = subst AreOctets (sym o.behind.1) (AreOctets-right (take o.behind.0 octets) (drop o.behind.0 octets) (subst AreOctets (sym (take-append-drop o.behind.0 octets)) fits)) in
    let whole = cut_is_cut octets fits in
    let part = cut_is_cut after fits_after in
    let a = spelling (record { kind = 1; body = msap.chassis }) in
    let b = spelling (record { kind = 2; body = msap.port }) in
    let d = spelling (record { kind = 3; body = o.body }) in
    let vs = (cut after).tlvs in
    let n : length octets ≡ length (a ++ (b ++ (d ++ spellings vs))) + length (cut after).rest =
    ap length (whole.joined ∙ ap (λ (c : Cut). spellings c.tlvs ++ c.rest) o.parts) ∙ length-append (a ++ (b ++ (d ++ spellings vs))) (cut after).rest in
    let m : length after ≡ length (spellings vs) + length (cut after).rest = ap length part.joined ∙ length-append (spellings vs) (cut after).rest in
    let f : length found ≡ length (spellings (before_end vs)) = ap length s.octets in
    let x : length (extent octets) ≡ length (a ++ (b ++ (d ++ spellings (before_end vs)))) = ap length (extent_parts octets after msap ttl o) in
    let front = extent_front octets fits in
    let e : length octets - length after + length found ≡ length (extent octets) = omega (arith, n, m, f, x, three_lengths a b d (spellings vs), three_lengths a b d (spellings (before_end vs))) in
    let tlvs : AllByRecursion IsTlv (cut octets).tlvs = whole.complete in
    let others : AllByRecursion IsTlv vs = (subst (λ (c : Cut). AllByRecursion IsTlv c.tlvs) o.parts tlvs).1.1.1 in
    record {
      within = omega (arith, n, m, three_lengths a b d (spellings vs));
      end = omega (arith, e, ap length front.1, length-append (extent octets) front.0);
      extent_is = ap (take (length octets - length after + length found)) front.1 ∙ take_at (extent octets) front.0 (length octets - length after + length found) (sym e);
      optional = ap cut s.octets ∙ cut_alone (before_end vs) (tlvs_before_end vs others);
    }

-- the definition of `discarded_of`, unfolded
pub discarded_is : (octets : List ℕ) → discarded_of octets ≡ length (others_after [] (later_tlvs octets)) + cond (ended_incomplete octets) 1 0
unfolding discarded_of
discarded_is octets = refl

pub tells : (octets after found shown : List ℕ) (msap : MsapId) (ttl lost unknown : ℕ) → ((i : ℕ) → get_or octets i 0 < 256) → OpensWith octets msap ttl after → IsSurveyOf after found lost unknown
    → shown ≡ take (length octets - length after + length found) octets
    → ◌≡◌ {A = LldpInfo} (record { msap = msap; ttl = ttl; octets = shown; kept = kept_seen none_seen (cut found).tlvs; discarded = lost; unrecognized = unknown }) (info_of octets)
tells octets after found shown msap ttl lost unknown bytes o s e =
    let st = stands octets after found msap ttl lost unknown bytes o s in
    let vs = before_end (cut after).tlvs in
    let later = later_is octets after msap ttl o in
    let kept : kept_of octets ≡ kept_seen none_seen vs = kept_tlvs_of octets ∙ ap (kept_after []) later ∙ sym (kept_seen-none vs) in
    let kept_found : kept_seen none_seen (cut found).tlvs ≡ kept_of octets = ap (λ (c : Cut). kept_seen none_seen c.tlvs) st.optional ∙ sym kept in
    let lost_is : lost ≡ discarded_of octets =
    s.discarded ∙ rw (count_lost-none vs, ← incomplete_is octets after msap ttl o, ← later) (sym (discarded_is octets)) in
    let unknown_is : unknown ≡ count_unrecognized (kept_of octets) = s.unrecognized ∙ ap count_unrecognized (sym kept) in
    same (sym (msap_is octets after msap ttl o)) (sym (ttl_is octets after msap ttl o)) (e ∙ st.extent_is) kept_found lost_is unknown_is
  where
    same : {m m' : MsapId} {t t' : ℕ} {x x' : List ℕ} {k k' : List TlvUnit} {l l' u u' : ℕ} → m ≡ m' → t ≡ t' → x ≡ x' → k ≡ k' → l ≡ l' → u ≡ u'
        → ◌≡◌ {A = LldpInfo} (record { msap = m; ttl = t; octets = x; kept = k; discarded = l; unrecognized = u }) (record { msap = m'; ttl = t'; octets = x'; kept = k'; discarded = l'; unrecognized = u' })
    same p q r s t u = cc
