-- After every change, the queue has exactly the slots in use.
use Rattle.std.proofs.Common.{◌≡◌, ℕ, ◌||◌, true, false, nat_eq, List, [], ◌∷◌, length, refl, inl, inr, ap, ◌∙◌, sym, arith}
use Rattle.std.specs.List.{list_any, AllByRecursion, IsDistinct}
use Rattle.std.specs.List.Sorted.{IsPermutation}
use Rattle.std.proofs.lemmas.Bool.{cases_Bool, eqb-true}
use Rattle.std.proofs.lemmas.List.{length-map}
use Rattle.std.proofs.lemmas.List.Sorted.{list_any-IsPermutation, length_permutation}
use Rattle.std.proofs.lemmas.Map.Keys.{IsDistinct-head, IsDistinct-tail, IsDistinct-cons}
use Rattle.lldp_table.specs.Code.Queue.{Due, slots_of, holds, ticks_left, enter, leave, IsQueued}
use Rattle.lldp_table.proofs.Slots.Places.{all-weaker, all-with, none-with, unheld, distinct-moved, nat_eq_sym}
use Rattle.lldp_table.proofs.Ageing.Steps.{left-enter_same, left-enter_other, left-leave, slots-enter, slots-leave}

pub holds-slots : (slot : ℕ) (queue : List Due) → holds slot queue ≡ list_any (nat_eq slot) (slots_of queue)
holds-slots slot [] = refl
holds-slots slot (e ∷ queue) = ap (λ b. b || holds slot queue) (nat_eq_sym e.slot slot) ∙ ap (λ b. nat_eq slot e.slot || b) (holds-slots slot queue)

slots_count : (queue : List Due) → length (slots_of queue) ≡ length queue
slots_count queue = length-map queue (λ (e : Due). e.slot)

-- `IsQueued` still holds if a slot is added both to the queue and to the slots in use
pub queued_more : (queue queue' : List Due) (s : ℕ) (used used' : List ℕ) → IsQueued queue used → list_any (nat_eq s) used ≡ false → IsPermutation (s ∷ used) used' → IsPermutation (s ∷ slots_of queue) (slots_of queue') → IsQueued queue' used'
queued_more queue queue' s used used' h u p q = record {
  same = λ i.
      holds-slots i queue' ∙ sym (list_any-IsPermutation (nat_eq i) (s ∷ slots_of queue) (slots_of queue') q)
      ∙ ap (λ b. nat_eq i s || b) (sym (holds-slots i queue) ∙ h.same i) ∙ list_any-IsPermutation (nat_eq i) (s ∷ used) used' p;
  count = omega (arith, length_permutation (s ∷ used) used' p, length_permutation (s ∷ slots_of queue) (slots_of queue') q, slots_count queue, slots_count queue', h.count);
  distinct = distinct-moved (s ∷ slots_of queue) (slots_of queue') q (IsDistinct-cons nat_eq s (slots_of queue) (unheld (nat_eq s) (slots_of queue) (sym (holds-slots s queue) ∙ h.same s ∙ u)) h.distinct);
}

-- if two lists that begin with s have the same members, so do the lists without s
same_others : (i s : ℕ) (xs ys : List ℕ) → IsDistinct nat_eq (s ∷ xs) → IsDistinct nat_eq (s ∷ ys) → list_any (nat_eq i) (s ∷ xs) ≡ list_any (nat_eq i) (s ∷ ys) → list_any (nat_eq i) xs ≡ list_any (nat_eq i) ys
same_others i s xs ys u v e =
    elim (cases_Bool (nat_eq i s)) [
      | inl t ↦
          let is_s : i ≡ s = eqb-true i s t in
          ap (λ n. list_any (nat_eq n) xs) is_s ∙ none-with s xs (IsDistinct-head nat_eq s xs u) ∙ sym (none-with s ys (IsDistinct-head nat_eq s ys v)) ∙ ap (λ n. list_any (nat_eq n) ys) (sym is_s)
      | inr f ↦ ap (λ b. b || list_any (nat_eq i) xs) (sym f) ∙ e ∙ ap (λ b. b || list_any (nat_eq i) ys) f
    ]

-- `IsQueued` still holds if a slot is removed both from the queue and from the slots in use
pub queued_less : (queue queue' : List Due) (s : ℕ) (used used' : List ℕ) → IsQueued queue used → IsDistinct nat_eq used → IsPermutation used (s ∷ used') → IsPermutation (slots_of queue) (s ∷ slots_of queue') → IsQueued queue' used'
queued_less queue queue' s used used' h u p q =
    let first = distinct-moved (slots_of queue) (s ∷ slots_of queue') q h.distinct in
    record {
      same = λ i.
          holds-slots i queue'
          ∙ same_others i s (slots_of queue') used' first (distinct-moved used (s ∷ used') p u)
          (sym (list_any-IsPermutation (nat_eq i) (slots_of queue) (s ∷ slots_of queue') q) ∙ sym (holds-slots i queue) ∙ h.same i ∙ list_any-IsPermutation (nat_eq i) used (s ∷ used') p);
      count = omega (arith, length_permutation used (s ∷ used') p, length_permutation (slots_of queue) (s ∷ slots_of queue') q, slots_count queue, slots_count queue', h.count);
      distinct = IsDistinct-tail nat_eq s (slots_of queue') first;
    }

-- every slot in use is in the queue
pub all_queued : (queue : List Due) (used : List ℕ) → IsQueued queue used → AllByRecursion (λ i. holds i queue ≡ true) used
all_queued queue used h = all-weaker (λ i. list_any (nat_eq i) used ≡ true) (λ i. holds i queue ≡ true) (λ i w. h.same i ∙ w) used (all-with used)

module _ (queue : List Due) (used : List ℕ) (h : IsQueued queue used) (s : ℕ) where
  -- ## Inserting a slot

  module _ (left : ℕ) (u : list_any (nat_eq s) used ≡ false) where
    unqueued : holds s queue ≡ false
    unqueued = h.same s ∙ u

    pub queued_enter : (used' : List ℕ) → IsPermutation (s ∷ used) used' → IsQueued (enter s left queue) used'
    queued_enter used' p = queued_more queue (enter s left queue) s used used' h u p (slots-enter s left queue)

    pub enter_here : ticks_left (enter s left queue) s ≡ left
    enter_here = left-enter_same s left queue unqueued

    pub enter_others : AllByRecursion (λ i. nat_eq s i ≡ false → ticks_left (enter s left queue) i ≡ ticks_left queue i) used
    enter_others = all-weaker (λ i. holds i queue ≡ true) (λ i. nat_eq s i ≡ false → ticks_left (enter s left queue) i ≡ ticks_left queue i) (λ i w d. left-enter_other s left i queue d w) used (all_queued queue used h)

  -- ## Removing a slot

  module _ (u : IsDistinct nat_eq used) (used' : List ℕ) (p : IsPermutation used (s ∷ used')) where
    pub holds_it : holds s queue ≡ true
    holds_it = h.same s ∙ list_any-IsPermutation (nat_eq s) used (s ∷ used') p ∙ (all-with (s ∷ used')).0

    pub queued_leave : IsQueued (leave s queue) used'
    queued_leave = queued_less queue (leave s queue) s used used' h u p (slots-leave s queue holds_it)

    pub out_of : list_any (nat_eq s) used' ≡ false
    out_of = none-with s used' (IsDistinct-head nat_eq s used' (distinct-moved used (s ∷ used') p u))

    pub leave_others : AllByRecursion (λ i. nat_eq s i ≡ false → ticks_left (leave s queue) i ≡ ticks_left queue i) used
    leave_others = all-weaker (λ i. holds i queue ≡ true) (λ i. nat_eq s i ≡ false → ticks_left (leave s queue) i ≡ ticks_left queue i) (λ i w d. left-leave s i queue d w) used (all_queued queue used h)

    -- removing a slot and inserting it again does not change the remaining ticks of the others
    pub again_others : (left : ℕ) → AllByRecursion (λ i. nat_eq s i ≡ false → ticks_left (enter s left (leave s queue)) i ≡ ticks_left queue i) used
    again_others left =
        all-weaker (λ i. holds i queue ≡ true) (λ i. nat_eq s i ≡ false → ticks_left (enter s left (leave s queue)) i ≡ ticks_left queue i)
        (λ i w d. left-enter_other s left i (leave s queue) d (still i d (sym (h.same i) ∙ w)) ∙ left-leave s i queue d w) used (all_queued queue used h)
      where
        still : (i : ℕ) → nat_eq s i ≡ false → list_any (nat_eq i) used ≡ true → holds i (leave s queue) ≡ true
        still i d w = queued_leave.same i ∙ ap (λ b. b || list_any (nat_eq i) used') (sym (nat_eq_sym i s ∙ d)) ∙ sym (list_any-IsPermutation (nat_eq i) used (s ∷ used') p) ∙ w
