-- Each list of octets has exactly one cut into TLVs and a rest, and `cut` computes it.
use Rattle.std.proofs.Common.{◌≡◌, ℕ, zero, suc, ◌+◌, ◌/◌, ◌%◌, ◌<◌, ◌≤◌, cond, ltb, List, [], ◌∷◌, ◌++◌, length, take, drop, get_or, ◌⊎◌, Option, Some, None, refl, sym, ap, ◌∙◌, append_assoc, arith, inl, inr}
use Rattle.std.specs.List.{AllByRecursion}
use Rattle.std.proofs.lemmas.Bool.{ltb-false, le-ltb}
use Rattle.std.proofs.lemmas.List.{take_at, drop_at, take-append-drop, length-append, length-take, length-drop, append-nil}
use Rattle.lldp_pdu.specs.Tlv.{TlvUnit, IsTlv, spelling, spellings, BeginsTlv, AreOctets}
use Rattle.lldp_pdu.specs.Cut.{Cut, IsCut, first_tlv, cut_after, cut_within, cut}
use Rattle.std.proofs.lemmas.Grind.{common_steps}

-- ---- lists of octets

pub AreOctets-left : (xs ys : List ℕ) → AreOctets (xs ++ ys) → AreOctets xs
AreOctets-left [] ys p = tt
AreOctets-left (x ∷ xs) ys p = (p.0, AreOctets-left xs ys p.1)

pub AreOctets-right : (xs ys : List ℕ) → AreOctets (xs ++ ys) → AreOctets ys
AreOctets-right [] ys p = p
AreOctets-right (x ∷ xs) ys p = AreOctets-right xs ys p.1

-- the elements of a list are octets if each is below 256
pub AreOctets-from_index : (xs : List ℕ) → ((i : ℕ) → get_or xs i 0 < 256) → AreOctets xs
AreOctets-from_index [] h = tt
AreOctets-from_index (x ∷ xs) h = (h 0, AreOctets-from_index xs (λ i. h (suc i)))

-- ---- the first TLV

-- the TLV with this header and the octets after it, or None if there are too few octets
announced : ℕ → List ℕ → Option (TlvUnit × List ℕ)
announced header octets = cond (ltb (length octets) (header % 512)) None (Some (record { kind = header / 512; body = take (header % 512) octets }, drop (header % 512) octets))

pub first_tlv-spelling : (u : TlvUnit) (others : List ℕ) → IsTlv u → first_tlv (spelling u ++ others) ≡ Some (u, others)
unfolding announced
first_tlv-spelling u others h = grind (arith, common_steps, le-ltb, length-append, take_at, drop_at)

-- the octets are the encoding of this TLV, followed by the others
pub record Takes (octets : List ℕ) (u : TlvUnit) (others : List ℕ) : Type 0 where
  pub parts : octets ≡ spelling u ++ others
  pub tlv : IsTlv u
  pub octets_left : AreOctets others

pub first_takes : (octets : List ℕ) (u : TlvUnit) (others : List ℕ) → AreOctets octets → first_tlv octets ≡ Some (u, others) → Takes octets u others
unfolding announced
first_takes octets u others fits h = grind (arith, common_steps, ltb-false, length-take, take-append-drop, AreOctets-right)

-- `first_tlv` returns None exactly if the octets do not begin with a complete TLV
pub begins_none : (octets : List ℕ) → first_tlv octets ≡ None → ¬ (BeginsTlv octets)
begins_none octets h b = let e : first_tlv octets ≡ Some (b.0, b.1) = ap first_tlv b.3 ∙ first_tlv-spelling b.0 b.1 b.2 in absurd (cc (h, e))

cases_Option : {A : Type 0} (o : Option A) → (o ≡ None) ⊎ ((x : A) × (o ≡ Some x))
cases_Option None = inl refl
cases_Option (Some x) = inr (x, refl)

pub none_begins : (octets : List ℕ) → AreOctets octets → ¬ (BeginsTlv octets) → first_tlv octets ≡ None
none_begins octets fits h =
    elim (cases_Option (first_tlv octets)) [
      | inl e ↦ e
      | inr (x, e) ↦ let t = first_takes octets x.0 x.1 fits e in absurd (h (x.0, x.1, t.tlv, t.parts))
    ]

-- `others` are the octets after the two header octets and the body of the first TLV
pub first_left : (octets : List ℕ) (u : TlvUnit) (others : List ℕ) → first_tlv octets ≡ Some (u, others) → others ≡ drop (2 + length u.body) octets
unfolding announced
first_left octets u others h = grind (arith, common_steps, ltb-false, length-take)

pub first_shorter : (octets : List ℕ) (u : TlvUnit) (others : List ℕ) → first_tlv octets ≡ Some (u, others) → length others + 2 ≤ length octets
unfolding announced
first_shorter octets u others h = grind (arith, common_steps, length-drop)

-- ---- the cut

-- `cut_within` returns the same cut for every bound of at least the length of the list
enough : (n m : ℕ) (octets : List ℕ) → length octets ≤ n → length octets ≤ m → cut_within n octets ≡ cut_within m octets
unfolding cut_within
enough zero zero octets h k = refl
enough zero (suc m) [] h k = refl
enough zero (suc m) (x ∷ octets) h k = absurd (omega arith)
enough (suc n) zero [] h k = refl
enough (suc n) zero (x ∷ octets) h k = absurd (omega arith)
enough (suc n) (suc m) octets h k = after_same (first_tlv octets) (λ u others e. enough n m others (omega (arith, first_shorter octets u others e)) (omega (arith, first_shorter octets u others e)))
  where
    after_same : (o : Option (TlvUnit × List ℕ)) → ((u : TlvUnit) (others : List ℕ) → o ≡ Some (u, others) → cut_within n others ≡ cut_within m others) → cut_after o (cut_within n) octets ≡ cut_after o (cut_within m) octets
    after_same None same = refl
    after_same (Some x) same = ap (λ (c : Cut). record { tlvs = x.0 ∷ c.tlvs; rest = c.rest }) (same x.0 x.1 refl)

-- the cut of octets, depending on whether they begin with a TLV
pub cut_none : (octets : List ℕ) → first_tlv octets ≡ None → cut octets ≡ record { tlvs = []; rest = octets }
unfolding cut cut_within
cut_none octets h = grind (arith, common_steps)

pub cut_some : (octets : List ℕ) (u : TlvUnit) (others : List ℕ) → first_tlv octets ≡ Some (u, others) → cut octets ≡ record { tlvs = u ∷ (cut others).tlvs; rest = (cut others).rest }
unfolding cut cut_within
cut_some octets u others h = grind (arith, common_steps, enough, first_shorter)

-- encoded TLVs in front of octets add these TLVs to the front of the octets' cut
pub cut-spellings : (us : List TlvUnit) (octets : List ℕ) → AllByRecursion IsTlv us → cut (spellings us ++ octets) ≡ record { tlvs = us ++ (cut octets).tlvs; rest = (cut octets).rest }
cut-spellings [] octets h = refl
cut-spellings (u ∷ us) octets h =
    let regrouped : spellings (u ∷ us) ++ octets ≡ spelling u ++ (spellings us ++ octets) = append_assoc (spelling u) (spellings us) octets in
    ap cut regrouped
    ∙ cut_some (spelling u ++ (spellings us ++ octets)) u (spellings us ++ octets) (first_tlv-spelling u (spellings us ++ octets) h.0)
    ∙ ap (λ (c : Cut). record { tlvs = u ∷ c.tlvs; rest = c.rest }) (cut-spellings us octets h.1)

-- Each list of octets has exactly one cut, which `cut` computes.
is_cut_within : (n : ℕ) (octets : List ℕ) → length octets ≤ n → AreOctets octets → IsCut octets (cut octets)
is_cut_within n octets h fits = at_first n octets h fits (first_tlv octets) refl
  where
    at_first : (n : ℕ) (octets : List ℕ) → length octets ≤ n → AreOctets octets → (o : Option (TlvUnit × List ℕ)) → first_tlv octets ≡ o → IsCut octets (cut octets)
    at_first n octets h fits None e = rw (cut_none octets e) (record { joined = refl; complete = tt; ended = begins_none octets e })
    at_first zero octets h fits (Some x) e = absurd (omega (arith, first_shorter octets x.0 x.1 e))
    at_first (suc n) octets h fits (Some x) e =
        let t = first_takes octets x.0 x.1 fits e in
        let short : length x.1 ≤ n = omega (arith, first_shorter octets x.0 x.1 e) in
        let below : IsCut x.1 (cut x.1) = at_first n x.1 short t.octets_left (first_tlv x.1) refl in
        rw (cut_some octets x.0 x.1 e) (record {
          joined = t.parts ∙ ap (λ (ys : List ℕ). spelling x.0 ++ ys) below.joined ∙ sym (append_assoc (spelling x.0) (spellings (cut x.1).tlvs) (cut x.1).rest);
          complete = (t.tlv, below.complete);
          ended = below.ended;
        })

pub cut_is_cut : (octets : List ℕ) → AreOctets octets → IsCut octets (cut octets)
cut_is_cut octets fits = is_cut_within (length octets) octets (omega arith) fits

pub only_cut : (octets : List ℕ) (c : Cut) → AreOctets octets → IsCut octets c → c ≡ cut octets
only_cut octets c fits h = grind (arith, common_steps, AreOctets-right, cut_none, none_begins, cut-spellings, append-nil)

-- ---- one call of `Tlvs::next`

pub gives_none : (octets left : List ℕ) → left ≡ octets → None ≡ first_tlv left → (cut octets ≡ record { tlvs = []; rest = octets }) × (octets ≡ octets)
gives_none octets left same h = (cut_none octets (ap first_tlv (sym same) ∙ sym h), refl)

pub gives_some : (octets left : List ℕ) (u : TlvUnit) (others : List ℕ) → left ≡ octets → Some (u, others) ≡ first_tlv left
    → (cut octets ≡ record { tlvs = u ∷ (cut others).tlvs; rest = (cut others).rest }) × (others ≡ drop (2 + length u.body) octets)
gives_some octets left u others same h = (cut_some octets u others (ap first_tlv (sym same) ∙ sym h), first_left octets u others (ap first_tlv (sym same) ∙ sym h))

pub fewer_tlvs : (octets others : List ℕ) (u : TlvUnit) → cut octets ≡ record { tlvs = u ∷ (cut others).tlvs; rest = (cut others).rest } → length (cut others).tlvs < length (cut octets).tlvs
fewer_tlvs octets others u h = omega (arith, ap (λ (c : Cut). length c.tlvs) h)
