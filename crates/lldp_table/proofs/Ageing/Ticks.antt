-- The loop of `age_out` marks expired slots and removes them from the queue, one by one. The effect
-- on the neighbors is the one that the definition of a tick states.
use Rattle.std.proofs.Common.{◌≡◌, ℕ, zero, suc, ◌+◌, ◌-◌, ◌<◌, ◌≤◌, Bool, true, false, not, ◌||◌, cond, nat_eq, nat_lt, List, [], ◌∷◌, ◌++◌, length, take, drop, set, get_or, refl, inl, inr, ap, ◌∙◌, sym, subst, arith, length-set, length-append, length-take-le}
use Rattle.std.proofs.Math.ListN.{replicate}
use Rattle.std.specs.List.{list_any, filter, filter_map, AllByRecursion, IsDistinct}
use Rattle.std.specs.List.Sorted.{IsPermutation}
use Rattle.std.proofs.lemmas.Bool.{cases_Bool, lt-ltb, eqb-true, eqb-false, eq-eqb, or_left, or_right}
use Rattle.std.proofs.lemmas.List.{get_or-set_same, get_or-set_other, length-replicate, take-append-drop, append_assoc}
use Rattle.std.proofs.Math.Seq.{take-append_seam, drop-append_seam}
use Rattle.std.proofs.lemmas.List.Filters.{length-filter_both}
use Rattle.std.proofs.lemmas.List.Sorted.{IsPermutation-refl, IsPermutation-trans, IsPermutation-cons, IsPermutation-filter_both, IsPermutation-append_left, length_permutation}
use Rattle.std.proofs.lemmas.Map.Keys.{IsDistinct-head, IsDistinct-tail}
use Rattle.lldp_table.specs.Contents.{Contents, IsSound}
use Rattle.lldp_table.specs.Events.{Neighbor}
use Rattle.lldp_table.specs.Code.Steps.{aged, expires, after_tick}
use Rattle.lldp_table.specs.Code.Stored.{Stored}
use Rattle.lldp_table.specs.Code.Marks.{has_mark, parted}
use Rattle.lldp_table.specs.Code.Queue.{Due, due, holds, slots_of, ticks_left, less_first, is_spent, IsRunning, IsQueued, IsTimed}
use Rattle.lldp_table.specs.Code.Layout.{neighbor_of, neighbors_at, gone_at, blank, contents_of, IsLaidOut, IsTable}
use Rattle.lldp_table.specs.Code.Ageing.{Aged}
use Rattle.lldp_table.proofs.Slots.Places.{all-weaker, all-both, distinct-take, distinct-moved, IsOrder-moved}
use Rattle.lldp_table.proofs.Ageing.Steps.{first_two, left-pass, left-positive, left-front_same, left-front_other, slots-less_first}
use Rattle.lldp_table.proofs.Ageing.Timed.{queued_less, all_queued, holds-slots}
use Rattle.lldp_table.proofs.Standing.Sound.{sound_ticked}
use Rattle.std.proofs.lemmas.Grind.{common_steps}

-- ## Marks

-- the slots without a mark, and those with one
abbrev pub stay : List Bool → List ℕ → List ℕ
stay marks is = filter (λ i. not (has_mark marks i)) is

abbrev pub go : List Bool → List ℕ → List ℕ
go marks is = filter (has_mark marks) is

no_mark : (n i : ℕ) → get_or (replicate n false) i false ≡ false
no_mark zero i = refl
no_mark (suc n) zero = refl
no_mark (suc n) (suc i) = no_mark n i

all_stay : (n : ℕ) (is : List ℕ) → stay (replicate n false) is ≡ is
all_stay n [] = refl
all_stay n (i ∷ is) = ap (λ b. cond (not b) (i ∷ stay (replicate n false) is) (stay (replicate n false) is)) (no_mark n i) ∙ ap (λ js. i ∷ js) (all_stay n is)

-- an element that passes the test and is in the list stays in the filtered list
in_part : (f : ℕ → Bool) (is : List ℕ) → AllByRecursion (λ i. f i ≡ true → list_any (nat_eq i) (filter f is) ≡ true) is
in_part f [] = tt
in_part f (i ∷ is) = (
  λ p. ap (λ b. list_any (nat_eq i) (cond b (i ∷ filter f is) (filter f is))) p ∙ or_left (nat_eq i i) (list_any (nat_eq i) (filter f is)) (eq-eqb i i refl),
  all-weaker (λ j. f j ≡ true → list_any (nat_eq j) (filter f is) ≡ true) (λ j. f j ≡ true → list_any (nat_eq j) (filter f (i ∷ is)) ≡ true) (λ j h p. more j (f i) (h p)) is (in_part f is),
)
  where
    more : (j : ℕ) (b : Bool) → list_any (nat_eq j) (filter f is) ≡ true → list_any (nat_eq j) (cond b (i ∷ filter f is) (filter f is)) ≡ true
    more j true h = or_right (nat_eq j i) (list_any (nat_eq j) (filter f is)) h
    more j false h = h

-- an element of the filtered list is in the list and passes the test
of_part : (f : ℕ → Bool) (s : ℕ) (is : List ℕ) → list_any (nat_eq s) (filter f is) ≡ true → (f s ≡ true) × (list_any (nat_eq s) is ≡ true)
of_part f s [] h = cc
of_part f s (i ∷ is) h =
    elim (cases_Bool (f i)) [
      | inl p ↦
          elim (cases_Bool (nat_eq s i)) [
            | inl e ↦ (ap f (eqb-true s i e) ∙ p, or_left (nat_eq s i) (list_any (nat_eq s) is) e)
            | inr d ↦
                let q = of_part f s is (sym (ap (λ b. list_any (nat_eq s) (cond b (i ∷ filter f is) (filter f is))) p ∙ ap (λ b. b || list_any (nat_eq s) (filter f is)) d) ∙ h) in
                (q.0, or_right (nat_eq s i) (list_any (nat_eq s) is) q.1)
          ]
      | inr p ↦
          let q = of_part f s is (sym (ap (λ b. list_any (nat_eq s) (cond b (i ∷ filter f is) (filter f is))) p) ∙ h) in
          (q.0, or_right (nat_eq s i) (list_any (nat_eq s) is) q.1)
    ]

distinct-filter : (f : ℕ → Bool) (is : List ℕ) → IsDistinct nat_eq is → IsDistinct nat_eq (filter f is)
distinct-filter f is u =
    let others : List ℕ = filter (λ i. not (f i)) is in
    subst (IsDistinct nat_eq) (take-append_seam (filter f is) others)
    (distinct-take (length (filter f is)) (filter f is ++ others) (distinct-moved is (filter f is ++ others) (IsPermutation-filter_both f (λ i. not (f i)) (λ i. refl) is) u))

-- no slot has a mark
none_go : (n : ℕ) (is : List ℕ) → go (replicate n false) is ≡ []
none_go n [] = refl
none_go n (i ∷ is) = ap (λ b. cond b (i ∷ go (replicate n false) is) (go (replicate n false) is)) (no_mark n i) ∙ none_go n is

-- one more slot gets a mark
module _ (marks : List Bool) (s : ℕ) (w : s < length marks) where
  abbrev more : List Bool
  more = set marks s true

  mark_here : has_mark more s ≡ true
  mark_here = get_or-set_same marks s true false w

  mark_there : (i : ℕ) → nat_eq s i ≡ false → has_mark more i ≡ has_mark marks i
  mark_there i d = get_or-set_other marks s i true false (λ e. eqb-false s i d (sym e))

  same_stay : (is : List ℕ) → AllByRecursion (λ i. nat_eq s i ≡ false) is → stay more is ≡ stay marks is
  same_stay [] a = refl
  same_stay (i ∷ is) a = ap (λ b. cond (not b) (i ∷ stay more is) (stay more is)) (mark_there i a.0) ∙ ap (λ js. cond (not (has_mark marks i)) (i ∷ js) js) (same_stay is a.1)

  one_less : (is : List ℕ) → IsDistinct nat_eq is → has_mark marks s ≡ false → list_any (nat_eq s) is ≡ true → IsPermutation (stay marks is) (s ∷ stay more is)
  one_less [] u f h = cc
  one_less (i ∷ is) u f h =
      elim (cases_Bool (nat_eq s i)) [
        | inl e ↦
            let same : s ≡ i = eqb-true s i e in
            let here : stay marks (i ∷ is) ≡ i ∷ stay marks is = ap (λ b. cond (not b) (i ∷ stay marks is) (stay marks is)) (ap (has_mark marks) (sym same) ∙ f) in
            let gone : stay more (i ∷ is) ≡ stay more is = ap (λ b. cond (not b) (i ∷ stay more is) (stay more is)) (ap (has_mark more) (sym same) ∙ mark_here) in
            let rest : stay more is ≡ stay marks is = same_stay is (subst (λ n. AllByRecursion (λ j. nat_eq n j ≡ false) is) (sym same) (IsDistinct-head nat_eq i is u)) in
            subst (λ xs. IsPermutation (stay marks (i ∷ is)) xs) (here ∙ ap (λ n. n ∷ stay marks is) (sym same) ∙ ap (λ xs. s ∷ xs) (sym (gone ∙ rest))) (IsPermutation-refl (stay marks (i ∷ is)))
        | inr d ↦
            let there : list_any (nat_eq s) is ≡ true = ap (λ b. b || list_any (nat_eq s) is) (sym d) ∙ h in
            let rest : IsPermutation (stay marks is) (s ∷ stay more is) = one_less is (IsDistinct-tail nat_eq i is u) f there in
            elim (cases_Bool (has_mark marks i)) [
              | inl m ↦ rw (mark_there i d, m) rest
              | inr m ↦ rw (mark_there i d, m)
                  (IsPermutation-trans (i ∷ stay marks is) (i ∷ s ∷ stay more is) (s ∷ i ∷ stay more is)
                  (IsPermutation-cons i (stay marks is) (s ∷ stay more is) rest) (first_two i s (stay more is)))
            ]
      ]

-- ## The loop

-- The loop invariant: the slots with a mark had no ticks left, and the others are in the queue.
pub record IsAging (queue0 : List Due) (used : List ℕ) (queue : List Due) (marks : List Bool) (spent : Bool) : Type 0 where
  pub all : length marks ≡ 256
  pub queued : IsQueued queue (stay marks used)
  pub left : AllByRecursion (λ i. ticks_left (less_first 1 queue0) i ≡ cond (has_mark marks i) 0 (ticks_left queue i)) used
  pub told : spent ≡ is_spent queue

pub less_count : (queue : List Due) → length (less_first 1 queue) ≡ length queue
less_count [] = refl
less_count (e ∷ queue) = refl

-- what becomes of a slot in use at a tick
record Fate (queue0 queue : List Due) (marks : List Bool) (i : ℕ) : Type 0 where
  goes : has_mark marks i ≡ true → ticks_left queue0 i ≡ 1
  stays : has_mark marks i ≡ false → (1 < ticks_left queue0 i) × (ticks_left queue i ≡ ticks_left queue0 i - 1)

module _ (queue0 : List Due) (used : List ℕ) (timed : IsTimed queue0 used) (distinct : IsDistinct nat_eq used) where
  abbrev passed : List Due
  passed = less_first 1 queue0

  pub passed_count : length passed ≡ length used
  passed_count = less_count queue0 ∙ timed.queued.count

  pub aging_begins : (spent : Bool) → spent ≡ is_spent passed → IsAging queue0 used passed (replicate 256 false) spent
  aging_begins spent e = record {
    all = length-replicate 256 false;
    queued = subst (IsQueued passed) (sym (all_stay 256 used)) (record {
      same = λ i. holds-slots i passed ∙ ap (list_any (nat_eq i)) (slots-less_first 1 queue0) ∙ sym (holds-slots i queue0) ∙ timed.queued.same i;
      count = passed_count;
      distinct = subst (IsDistinct nat_eq) (sym (slots-less_first 1 queue0)) timed.queued.distinct;
    });
    left = every used;
    told = e;
  }
    where
      every : (is : List ℕ) → AllByRecursion (λ i. ticks_left passed i ≡ cond (has_mark (replicate 256 false) i) 0 (ticks_left passed i)) is
      every [] = tt
      every (i ∷ is) = (sym (ap (λ b. cond b 0 (ticks_left passed i)) (no_mark 256 i)), every is)

  module _ (queue : List Due) (marks : List Bool) (spent : Bool) (h : IsAging queue0 used queue marks spent) where
    -- one step of the loop: the first slot, which has no ticks left, is removed and marked
    module _ (slot : ℕ) (queue' : List Due) (e : queue ≡ due slot 0 ∷ queue') (w : slot < 256) where
      pub aging_goes_on : (spent' : Bool) → spent' ≡ is_spent queue' → IsAging queue0 used queue' (set marks slot true) spent'
      aging_goes_on spent' s =
          let within : slot < length marks = omega (arith, w, h.all) in
          let marks' : List Bool = set marks slot true in
          let in_queue : holds slot queue ≡ true = ap (holds slot) e ∙ or_left (nat_eq slot slot) (holds slot queue') (eq-eqb slot slot refl) in
          let there = of_part (λ i. not (has_mark marks i)) slot used (sym (h.queued.same slot) ∙ in_queue) in
          let unmarked : has_mark marks slot ≡ false = not-true (has_mark marks slot) there.0 in
          let apart : IsDistinct nat_eq (stay marks used) = distinct-filter (λ i. not (has_mark marks i)) used distinct in
          let first : IsPermutation (slots_of queue) (slot ∷ slots_of queue') = subst (λ (q : List Due). IsPermutation (slots_of q) (slot ∷ slots_of queue')) (sym e) (IsPermutation-refl (slot ∷ slots_of queue')) in
          record {
            all = length-set marks slot true ∙ h.all;
            queued = queued_less queue queue' slot (stay marks used) (stay marks' used) h.queued apart (one_less marks slot within used distinct unmarked there.1) first;
            left = all-weaker (λ i. ticks_left passed i ≡ cond (has_mark marks i) 0 (ticks_left queue i)) (λ i. ticks_left passed i ≡ cond (has_mark marks' i) 0 (ticks_left queue' i)) (λ i l. next within i (l ∙ ap (λ (q : List Due). cond (has_mark marks i) 0 (ticks_left q i)) e)) used h.left;
            told = s;
          }
        where
          not-true : (b : Bool) → not b ≡ true → b ≡ false
          not-true true n = cc
          not-true false n = refl

          zero_both : (b : Bool) (n : ℕ) → n ≡ 0 → cond b 0 n ≡ 0
          zero_both true n z = refl
          zero_both false n z = z

          next : slot < length marks → (i : ℕ) → ticks_left passed i ≡ cond (has_mark marks i) 0 (ticks_left (due slot 0 ∷ queue') i) → ticks_left passed i ≡ cond (has_mark (set marks slot true) i) 0 (ticks_left queue' i)
          next w i l =
              elim (cases_Bool (nat_eq slot i)) [
                | inl t ↦
                    let same : slot ≡ i = eqb-true slot i t in
                    l ∙ zero_both (has_mark marks i) (ticks_left (due slot 0 ∷ queue') i) (ap (ticks_left (due slot 0 ∷ queue')) (sym same) ∙ left-front_same slot queue')
                    ∙ sym (ap (λ b. cond b 0 (ticks_left queue' i)) (ap (has_mark (set marks slot true)) (sym same) ∙ mark_here marks slot w))
                | inr d ↦
                    l ∙ ap (λ n. cond (has_mark marks i) 0 n) (left-front_other slot i queue' d)
                    ∙ ap (λ b. cond b 0 (ticks_left queue' i)) (sym (mark_there marks slot w i d))
              ]

    -- the end of the loop: every slot without a mark has ticks left
    module _ (done : spent ≡ false) where
      pub runs : IsRunning queue
      runs = sym h.told ∙ done

      fates : AllByRecursion (Fate queue0 queue marks) used
      fates =
          all-both (λ i. holds i queue0 ≡ true) (λ i. (ticks_left passed i ≡ cond (has_mark marks i) 0 (ticks_left queue i)) × (not (has_mark marks i) ≡ true → list_any (nat_eq i) (stay marks used) ≡ true)) (Fate queue0 queue marks)
          (λ i q l. fate i q l.0 (λ n. h.queued.same i ∙ l.1 n)) used (all_queued queue0 used timed.queued)
          (all-both (λ i. ticks_left passed i ≡ cond (has_mark marks i) 0 (ticks_left queue i)) (λ i. not (has_mark marks i) ≡ true → list_any (nat_eq i) (stay marks used) ≡ true)
          (λ i. (ticks_left passed i ≡ cond (has_mark marks i) 0 (ticks_left queue i)) × (not (has_mark marks i) ≡ true → list_any (nat_eq i) (stay marks used) ≡ true)) (λ i a b. (a, b)) used h.left (in_part (λ i. not (has_mark marks i)) used))
        where
          fate : (i : ℕ) → holds i queue0 ≡ true → ticks_left passed i ≡ cond (has_mark marks i) 0 (ticks_left queue i) → (not (has_mark marks i) ≡ true → holds i queue ≡ true) → Fate queue0 queue marks i
          fate i q l k =
              let before : ticks_left passed i ≡ ticks_left queue0 i - 1 = left-pass i queue0 timed.running q in
              let some : 0 < ticks_left queue0 i = left-positive i queue0 timed.running q in
              record {
                goes = λ m. let z = l ∙ ap (λ b. cond b 0 (ticks_left queue i)) m in omega (arith, z, before, some);
                stays = λ m.
                    let n = l ∙ ap (λ b. cond b 0 (ticks_left queue i)) m in
                    let more = left-positive i queue runs (k (ap not m)) in
                    (omega (arith, n, before, more), omega (arith, n, before));
              }

      module _ (slots : List Stored) where
        abbrev with_left : ℕ → ℕ → Neighbor
        with_left i n = neighbor_of (get_or slots i blank) n

        kept_are : (is : List ℕ) → AllByRecursion (Fate queue0 queue marks) is → neighbors_at slots (ticks_left queue) (stay marks is) ≡ filter_map aged (neighbors_at slots (ticks_left queue0) is)
        kept_are [] a = refl
        kept_are (i ∷ is) a =
            elim (cases_Bool (has_mark marks i)) [
              | inl m ↦
                  let one = a.0.goes m in
                  rw (m, one) (kept_are is a.1)
              | inr m ↦
                  let f = a.0.stays m in
                  let t : nat_lt 1 (ticks_left queue0 i) ≡ true = lt-ltb 1 (ticks_left queue0 i) f.0 in
                  rw (m, t, f.1) (ap (λ xs. with_left i (ticks_left queue0 i - 1) ∷ xs) (kept_are is a.1))
            ]

        gone_are : (is : List ℕ) → AllByRecursion (Fate queue0 queue marks) is → neighbors_at slots (λ i. 1) (go marks is) ≡ filter expires (neighbors_at slots (ticks_left queue0) is)
        gone_are [] a = refl
        gone_are (i ∷ is) a =
            elim (cases_Bool (has_mark marks i)) [
              | inl m ↦
                  let one = a.0.goes m in
                  rw (m, one) (ap (λ xs. with_left i 1 ∷ xs) (gone_are is a.1))
              | inr m ↦
                  let f = a.0.stays m in
                  let t : nat_lt 1 (ticks_left queue0 i) ≡ true = lt-ltb 1 (ticks_left queue0 i) f.0 in
                  rw (m, t) (gone_are is a.1)
            ]

        pub aging_keeps : neighbors_at slots (ticks_left queue) (stay marks used) ≡ filter_map aged (neighbors_at slots (ticks_left queue0) used)
        aging_keeps = kept_are used fates

        pub aging_takes : neighbors_at slots (λ i. 1) (go marks used) ≡ filter expires (neighbors_at slots (ticks_left queue0) used)
        aging_takes = gone_are used fates

    pub aging_timed : spent ≡ false → IsTimed queue (stay marks used)
    aging_timed done = record { queued = h.queued; running = sym h.told ∙ done }

  -- ### No slot is spent

  module _ (running : is_spent passed ≡ false) where
    begun : IsAging queue0 used passed (replicate 256 false) false
    begun = aging_begins false (sym running)

    none_expire : (slots : List Stored) → neighbors_at slots (ticks_left passed) used ≡ filter_map aged (neighbors_at slots (ticks_left queue0) used)
    none_expire slots = subst (λ is. neighbors_at slots (ticks_left passed) is ≡ filter_map aged (neighbors_at slots (ticks_left queue0) used)) (all_stay 256 used) (aging_keeps passed (replicate 256 false) false begun refl slots)

    none_taken : (slots : List Stored) → [] ≡ filter expires (neighbors_at slots (ticks_left queue0) used)
    none_taken slots = subst (λ is. neighbors_at slots (λ i. 1) is ≡ filter expires (neighbors_at slots (ticks_left queue0) used)) (none_go 256 used) (aging_takes passed (replicate 256 false) false begun refl slots)

    all_timed : IsTimed passed used
    all_timed = record { queued = subst (IsQueued passed) (all_stay 256 used) begun.queued; running = running }

-- ## Parting an order

-- some of the first k items are fewer than all
pub some_of : (p : ℕ → Bool) (k : ℕ) (is : List ℕ) → k < length is → length (filter p (take k is)) < length is
some_of p k is l = omega (arith, length-filter_both p (λ i. not (p i)) (λ i. refl) (take k is), length-take-le k is (omega arith))

not_not : (b : Bool) → b ≡ not (not b)
not_not true = refl
not_not false = refl

module _ (marks : List Bool) (used : ℕ) (order : List ℕ) (fits : used ≤ length order) where
  abbrev front : List ℕ
  front = stay marks (take used order)

  abbrev behind : List ℕ
  behind = go marks (take used order)

  abbrev moved : List ℕ
  moved = parted (has_mark marks) used order

  two_parts : IsPermutation (take used order) (front ++ behind)
  two_parts = IsPermutation-filter_both (λ i. not (has_mark marks i)) (has_mark marks) (λ i. not_not (has_mark marks i)) (take used order)

  pub parted_count : length front + length behind ≡ used
  parted_count = omega (arith, length_permutation (take used order) (front ++ behind) two_parts, length-append front behind, length-take-le used order fits)

  seam : moved ≡ front ++ (behind ++ drop used order)
  seam = append_assoc front behind (drop used order)

  pub parted_front : take (length front) moved ≡ front
  parted_front = ap (take (length front)) seam ∙ take-append_seam front (behind ++ drop used order)

  pub parted_behind : (gone : ℕ) → gone ≡ used - length front → take gone (drop (length front) moved) ≡ behind
  parted_behind gone e =
      ap (λ is. take gone (drop (length front) is)) seam
      ∙ ap (take gone) (drop-append_seam front (behind ++ drop used order))
      ∙ ap (λ n. take n (behind ++ drop used order)) (omega (arith, e, parted_count))
      ∙ take-append_seam behind (drop used order)

  pub parted_moved : IsPermutation order moved
  parted_moved =
      subst (λ xs. IsPermutation xs moved) (take-append-drop used order)
      (IsPermutation-append_left (drop used order) (take used order) (front ++ behind) two_parts)

-- ## Tables

-- the table after a tick
module _ (capacity : ℕ) (slots : List Stored) (left left' : ℕ → ℕ) (order order' : List ℕ) (used gone used' gone' limit too_many timer : ℕ) (n : neighbors_at slots left' (take used' order') ≡ filter_map aged (neighbors_at slots left (take used order)))
    (g : gone_at slots order' used' gone' ≡ filter expires (neighbors_at slots left (take used order))) (t : timer ≡ too_many - 1) where
  after_ticked : contents_of capacity slots left' order' used' gone' limit timer ≡ after_tick (contents_of capacity slots left order used gone limit too_many)
  after_ticked = grind (arith, common_steps)

  laid_ticked : IsLaidOut capacity slots left order used gone limit too_many → IsPermutation order order' → used' + gone' ≡ used → IsLaidOut capacity slots left' order' used' gone' limit timer
  laid_ticked h p f = record {
    indices = IsOrder-moved (length slots) order order' p h.indices;
    written = h.written;
    fits = omega (arith, f, h.fits);
    held = omega (arith, f, h.held);
    sound = subst IsSound (sym after_ticked) (sound_ticked (contents_of capacity slots left order used gone limit too_many) h.sound);
  }

module _ {capacity : ℕ} {slots : List Stored} {queue : List Due} {order : List ℕ} {used gone limit too_many : ℕ} (h : IsTable capacity slots queue order used gone limit too_many) {timer : ℕ} (t : timer ≡ too_many - 1) where
  abbrev shown : Contents
  shown = contents_of capacity slots (ticks_left queue) order used gone limit too_many

  apart : IsDistinct nat_eq (take used order)
  apart = distinct-take used order h.laid.indices.distinct

  -- no neighbor ages out
  module _ {queue' : List Due} (e : queue' ≡ less_first 1 queue) (running : is_spent queue' ≡ false) where
    pub quiet_after : contents_of capacity slots (ticks_left queue') order used 0 limit timer ≡ after_tick shown
    quiet_after =
        rw e (after_ticked capacity slots (ticks_left queue) (ticks_left (less_first 1 queue)) order order used gone used 0 limit too_many timer
        (none_expire queue (take used order) h.timed apart (rw e at running) slots) (none_taken queue (take used order) h.timed apart (rw e at running) slots) t)

    pub quiet_table : IsTable capacity slots queue' order used 0 limit timer
    quiet_table = rw e (record {
      laid = laid_ticked capacity slots (ticks_left queue) (ticks_left (less_first 1 queue)) order order used gone used 0 limit too_many timer
          (none_expire queue (take used order) h.timed apart (rw e at running) slots) (none_taken queue (take used order) h.timed apart (rw e at running) slots) t
          h.laid (IsPermutation-refl order) (omega arith);
      timed = all_timed queue (take used order) h.timed apart (rw e at running);
    })

  -- some neighbors age out
  module _ {queue' : List Due} {order' : List ℕ} {kept : ℕ} (a : Aged queue queue' order order' used kept) where
    pub aged_after : contents_of capacity slots (ticks_left queue') order' kept (used - kept) limit timer ≡ after_tick shown
    aged_after = after_ticked capacity slots (ticks_left queue) (ticks_left queue') order order' used gone kept (used - kept) limit too_many timer (a.neighbors slots) (a.gone slots) t

    pub aged_table : IsTable capacity slots queue' order' kept (used - kept) limit timer
    aged_table = record {
      laid = laid_ticked capacity slots (ticks_left queue) (ticks_left queue') order order' used gone kept (used - kept) limit too_many timer (a.neighbors slots) (a.gone slots) t h.laid a.moved (omega (arith, a.fewer));
      timed = a.timed;
    }
