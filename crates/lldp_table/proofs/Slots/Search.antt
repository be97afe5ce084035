-- The search for a tag, and for the slot of a name among those with its tag.
use Rattle.std.proofs.Common.{◌≡◌, ℕ, suc, ◌+◌, ◌-◌, ◌<◌, ◌≤◌, false, eqb, take, drop, List, [], ◌∷◌, ◌++◌, length, map, get_or, set, inl, inr, refl, ap, ◌∙◌, sym, arith, length-set, length-append}
use Rattle.std.specs.List.{list_any, AllByRecursion}
use Rattle.std.proofs.lemmas.Bool.{cases_lt, cases_eq, cases_Bool, eqb-true, eq-eqb, or_from}
use Rattle.std.proofs.lemmas.List.{get_or-set_same, get_or-set_other, get_or_append_left, get_or-take, get_or-drop, length-take-le, length-drop}
use Rattle.memchr.specs.Find.{Nowhere, NoneBefore, Passes, is_byte}
use Rattle.lldp_pdu.specs.Msap.{MsapId}
use Rattle.lldp_pdu.specs.Lldpdu.{msap_of}
use Rattle.lldp_table.specs.Msap.{same_msap}
use Rattle.lldp_table.specs.Code.Stored.{Stored, tag_of}
use Rattle.lldp_table.specs.Code.Layout.{msap_at, blank, with_next}
use Rattle.lldp_table.specs.Code.Tags.{IsTagged}
use Rattle.lldp_table.proofs.Msap.{same_msap-true}
use Rattle.lldp_table.proofs.Slots.Places.{at_place}
use Rattle.std.proofs.lemmas.Grind.{common_steps}

-- ## A tag

-- the search among the tags from `from` up to `end`
module _ (tags : List ℕ) (tag from end : ℕ) (least : from ≤ end) (most : end ≤ length tags) where
  abbrev part : List ℕ
  part = take (end - from) (drop from tags)

  long : length part ≡ end - from
  long = length-take-le (end - from) (drop from tags) (omega (arith, length-drop from tags, most, least))

  there : (k : ℕ) → k < end - from → get_or part k 0 ≡ get_or tags (from + k) 0
  there k h = get_or-take (end - from) (drop from tags) k 0 h ∙ get_or-drop from tags k 0

  pub nowhere : (j : ℕ) → j ≤ length part → Nowhere (Passes (is_byte tag) part) 0 j → Nowhere (λ i. get_or tags i 0 ≡ tag) from (from + j)
  nowhere j few none k a b e =
      let behind : from + (k - from) ≡ k = omega (arith, a) in
      let same : get_or part (k - from) 0 ≡ tag = there (k - from) (omega (arith, a, b, few, long)) ∙ ap (λ i. get_or tags i 0) behind ∙ e in
      none (k - from) (omega arith) (omega (arith, a, b)) (eq-eqb (get_or part (k - from) 0) tag same)

  pub found : (k : ℕ) → NoneBefore (Passes (is_byte tag) part) 0 (length part) k × Passes (is_byte tag) part k → NoneBefore (λ i. get_or tags i 0 ≡ tag) from end (from + k) × (get_or tags (from + k) 0 ≡ tag)
  found k h =
      let within : k < end - from = omega (arith, h.0.high, long) in
      (record { low = omega arith; high = omega (arith, within, least); before = nowhere k (omega (arith, within, long)) h.0.before }, sym (there k within) ∙ eqb-true (get_or part k 0) tag h.1)

  pub not_found : Nowhere (Passes (is_byte tag) part) 0 (length part) → Nowhere (λ i. get_or tags i 0 ≡ tag) from end
  not_found none k a b = nowhere (length part) (omega arith) none k a (omega (arith, b, long, least))

-- ## The slot of a name

-- a slot whose tag differs from that of a name has another name
module _ (tags : List ℕ) (slots : List Stored) (t : IsTagged tags slots) (name : MsapId) where
  differs : (i : ℕ) → i < length slots → (get_or tags i 0 ≡ tag_of name → ⊥) → same_msap name (msap_at slots i) ≡ false
  differs i l d = elim (cases_Bool (same_msap name (msap_at slots i))) [
    | inl e ↦ absurd (d (t.each i l ∙ ap tag_of (sym (same_msap-true name (msap_at slots i) e))))
    | inr f ↦ f
  ]

  module _ (order : List ℕ) (from : ℕ) (w : AllByRecursion (λ i. i < length slots) order) (none : (k : ℕ) → k < length order → get_or order k 0 < from → same_msap name (msap_at slots (get_or order k 0)) ≡ false) where
    abbrev slot_at : ℕ → ℕ
    slot_at k = get_or order k 0

    -- if no further slot has the tag, no slot in the order has the name
    pub none_of : Nowhere (λ i. get_or tags i 0 ≡ tag_of name) from (length slots) → list_any (same_msap name) (map (msap_at slots) order) ≡ false
    none_of apart = none_named order (λ k h. elim (cases_lt (slot_at k) from) [
      | inl before ↦ none k h before
      | inr behind ↦ let within : slot_at k < length slots = at_place (λ i. i < length slots) order k 0 h w in differs (slot_at k) within (apart (slot_at k) behind within)
    ])
      where
        none_named : (is : List ℕ) → ((k : ℕ) → k < length is → same_msap name (msap_at slots (get_or is k 0)) ≡ false) → list_any (same_msap name) (map (msap_at slots) is) ≡ false
        none_named [] h = refl
        none_named (i ∷ is) h = or_from (same_msap name (msap_at slots i)) (list_any (same_msap name) (map (msap_at slots) is)) (h 0 (omega arith)) (none_named is (λ k l. h (suc k) (omega arith)))

-- ## Tables whose slots have their tags

pub tagged_none : (tags : List ℕ) (slots : List Stored) → length tags ≡ 128 → slots ≡ [] → IsTagged tags slots
tagged_none tags slots all e = record { all = all; each = λ i l. absurd (omega (arith, l, ap length e)) }

-- a slot is written again with a frame of the same name
pub tagged_again : (tags : List ℕ) (slots : List Stored) (s : ℕ) (slot : Stored) → IsTagged tags slots → s < length slots → msap_of slot.octets ≡ msap_at slots s → IsTagged tags (set slots s slot)
tagged_again tags slots s slot t within e = record {
  all = t.all;
  each = λ i l. elim (cases_eq i s) [
    | inl same ↦
        let here : get_or (set slots s slot) s blank ≡ slot = get_or-set_same slots s slot blank within in
        rw same (t.each s within ∙ ap tag_of (sym e) ∙ ap (λ (x : Stored). tag_of (msap_of x.octets)) (sym here))
    | inr other ↦ t.each i (omega (arith, l, length-set slots s slot)) ∙ ap (λ (x : Stored). tag_of (msap_of x.octets)) (sym (get_or-set_other slots s i slot blank other))
  ];
}

-- a slot is written, and its tag with it; it may be a new one at the end
get_or-append_seam : (xs : List ℕ) (x : ℕ) → length xs ≡ x → get_or (xs ++ x ∷ []) x 0 ≡ x
get_or-append_seam xs x e = grind (arith, common_steps)

module _ (tags : List ℕ) (slots : List Stored) (order : List ℕ) (used tag : ℕ) (slot : Stored) (t : IsTagged tags slots) (all : length order ≡ length slots) where
  abbrev slots' : List Stored
  slots' = with_next used blank slots

  abbrev s : ℕ
  s = get_or (with_next used used order) used 0

  was_tagged : (i : ℕ) → i < length slots' → (i ≡ s → ⊥) → get_or tags i 0 ≡ tag_of (msap_at slots' i)
  was_tagged i l other = elim (cases_Bool (eqb (length slots) used)) [
    | inl full ↦
        let n : length slots ≡ used = eqb-true (length slots) used full in
        let grown : slots' ≡ slots ++ blank ∷ [] = rw full refl in
        let last : s ≡ used = rw (all, full) (get_or-append_seam order used (omega (arith, all, n))) in
        let before : i < length slots = omega (arith, l, ap length grown, length-append slots (blank ∷ []), other, last, n) in
        t.each i before ∙ ap (λ (x : Stored). tag_of (msap_of x.octets)) (sym (ap (λ (xs : List Stored). get_or xs i blank) grown ∙ get_or_append_left slots (blank ∷ []) blank i before))
    | inr not_full ↦ let same : slots' ≡ slots = rw not_full refl in rw same (t.each i (rw same at l))
  ]

  pub tagged_next : s < length slots' → length slots' ≤ 128 → tag ≡ tag_of (msap_of slot.octets) → IsTagged (set tags s tag) (set slots' s slot)
  tagged_next within few e = record {
    all = length-set tags s tag ∙ t.all;
    each = λ i l. elim (cases_eq i s) [
      | inl same ↦
          let here : get_or (set slots' s slot) s blank ≡ slot = get_or-set_same slots' s slot blank within in
          rw same (get_or-set_same tags s tag 0 (omega (arith, within, few, t.all)) ∙ e ∙ ap (λ (x : Stored). tag_of (msap_of x.octets)) (sym here))
      | inr other ↦
          get_or-set_other tags s i tag 0 other ∙ was_tagged i (omega (arith, l, length-set slots' s slot)) other
          ∙ ap (λ (x : Stored). tag_of (msap_of x.octets)) (sym (get_or-set_other slots' s i slot blank other))
    ];
  }
