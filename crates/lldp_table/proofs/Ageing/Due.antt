-- The effects on a queue of writing a time, adding a slot and removing a slot.
use Rattle.std.proofs.Common.{◌≡◌, ℕ, zero, suc, ◌+◌, ◌-◌, ◌^◌, ◌<◌, ◌≤◌, ◌||◌, true, false, cond, nat_eq, nat_le, List, [], ◌∷◌, ◌++◌, length, take, drop, set, get_or, refl, inl, inr, ap, ◌∙◌, sym, subst, arith, map, length-take-le}
use Rattle.std.specs.List.{list_any, AllByRecursion, IsDistinct, remove, insert}
use Rattle.std.specs.List.Sorted.{IsPermutation}
use Rattle.std.proofs.Math.ListN.{drop_of_length-le}
use Rattle.std.proofs.Math.Seq.{drop-cons, take-append_seam, drop-append_seam}
use Rattle.std.proofs.lemmas.Bool.{cases_Bool, eqb-true, eqb-false, eq-eqb, ne_eqb, le-leb, lt-leb, ltb-true, cond-true, cond-false}
use Rattle.std.proofs.lemmas.List.{take_more, take-append-drop, append_assoc, map-append, take-map, drop-map, get_or-set_same, get_or-set_other}
use Rattle.std.proofs.lemmas.List.Elements.{All-from_recursion, recursion_from_All}
use Rattle.std.proofs.lemmas.List.Sorted.{All-permutation}
use Rattle.std.proofs.lemmas.Map.Keys.{IsDistinct-head, IsDistinct-tail, IsDistinct-cons}
use Rattle.lldp_table.specs.Code.Queue.{Due, due, dues, slots_of, holds, ticks_left, put, enter, leave, less_first, add_first, is_spent, total, IsRunning, IsQueue}
use Rattle.lldp_table.proofs.Slots.Places.{at_place, all-push, all-both, not_before, not_behind, nat_eq_sym, map-remove, unheld, distinct-moved}
use Rattle.lldp_table.proofs.Ageing.Steps.{at_first, behind, enter-last, total-cons, total-append, total-added, total-enter, total-leave, total-less_first, total-pass, slots-enter, slots-leave}
use Rattle.std.proofs.lemmas.Grind.{common_steps}

module _ (times : List ℕ) where
  pub slots_of-dues : (slots : List ℕ) → slots_of (dues times slots) ≡ slots
  slots_of-dues [] = refl
  slots_of-dues (i ∷ is) = ap (λ js. i ∷ js) (slots_of-dues is)

  pub holds-dues : (slot : ℕ) (slots : List ℕ) → holds slot (dues times slots) ≡ list_any (nat_eq slot) slots
  holds-dues slot [] = refl
  holds-dues slot (i ∷ is) = ap (λ b. b || holds slot (dues times is)) (nat_eq_sym i slot) ∙ ap (λ b. nat_eq slot i || b) (holds-dues slot is)

  -- ## Writing the time of a slot

  -- writing the time of a slot that is not in the queue does not change the queue
  pub dues-other : (s g : ℕ) (slots : List ℕ) → AllByRecursion (λ i. nat_eq s i ≡ false) slots → dues (set times s g) slots ≡ dues times slots
  dues-other s g [] a = refl
  dues-other s g (i ∷ is) a = ap (λ n. due i n ∷ dues (set times s g) is) (get_or-set_other times s i g 0 (λ e. eqb-false s i a.0 (sym e))) ∙ ap (λ q. due i (get_or times i 0) ∷ q) (dues-other s g is a.1)

  -- writing the time of the slot at place k replaces the gap of that slot
  dues-set : (s g : ℕ) (slots : List ℕ) (k : ℕ) → k < length slots → get_or slots k 0 ≡ s → IsDistinct nat_eq slots → s < length times → dues (set times s g) slots ≡ take k (dues times slots) ++ due s g ∷ drop (suc k) (dues times slots)
  dues-set s g [] k l e d h = absurd (omega arith)
  dues-set s g (i ∷ is) zero l e d h =
      ap (λ j. due j (get_or (set times s g) j 0) ∷ dues (set times s g) is) e
      ∙ ap (λ n. due s n ∷ dues (set times s g) is) (get_or-set_same times s g 0 h)
      ∙ ap (λ q. due s g ∷ q) (dues-other s g is (subst (λ j. AllByRecursion (λ n. nat_eq j n ≡ false) is) e (IsDistinct-head nat_eq i is d)))
  dues-set s g (i ∷ is) (suc k) l e d h =
      let differs : nat_eq s i ≡ false = nat_eq_sym s i ∙ ap (nat_eq i) (sym e) ∙ at_place (λ j. nat_eq i j ≡ false) is k 0 (omega arith) (IsDistinct-head nat_eq i is d) in
      ap (λ n. due i n ∷ dues (set times s g) is) (get_or-set_other times s i g 0 (λ q. eqb-false s i differs (sym q)))
      ∙ ap (λ q. due i (get_or times i 0) ∷ q) (dues-set s g is k (omega arith) e (IsDistinct-tail nat_eq i is d) h)

  -- the queue from place k on
  pub drop-dues : (slots : List ℕ) (k : ℕ) → k < length slots → drop k (dues times slots) ≡ due (get_or slots k 0) (get_or times (get_or slots k 0) 0) ∷ drop (suc k) (dues times slots)
  drop-dues [] k l = absurd (omega arith)
  drop-dues (i ∷ is) zero l = refl
  drop-dues (i ∷ is) (suc k) l = drop-dues is k (omega arith)

  take-dues : (slots : List ℕ) (k : ℕ) → k < length slots → take (suc k) (dues times slots) ≡ take k (dues times slots) ++ due (get_or slots k 0) (get_or times (get_or slots k 0) 0) ∷ []
  take-dues [] k l = absurd (omega arith)
  take-dues (i ∷ is) zero l = refl
  take-dues (i ∷ is) (suc k) l = ap (λ q. due i (get_or times i 0) ∷ q) (take-dues is k (omega arith))

  length-dues : (slots : List ℕ) → length (dues times slots) ≡ length slots
  length-dues [] = refl
  length-dues (i ∷ is) = ap suc (length-dues is)

  module _ (slots : List ℕ) (k : ℕ) where
    abbrev queue : List Due
    queue = dues times slots

    abbrev s : ℕ
    s = get_or slots k 0

    abbrev gap : ℕ
    gap = get_or times s 0

    module _ (l : k < length slots) (d : IsDistinct nat_eq slots) (h : s < length times) where
      pub lessened : (n to : ℕ) → to ≡ gap - n → dues (set times s to) slots ≡ take k queue ++ less_first n (drop k queue)
      lessened n to e = ap (λ m. dues (set times s m) slots) e ∙ dues-set s (gap - n) slots k l refl d h ∙ ap (λ q. take k queue ++ q) (sym (ap (less_first n) (drop-dues slots k l)))

      pub raised : (n to : ℕ) → to ≡ n + gap → dues (set times s to) slots ≡ take k queue ++ add_first n (drop k queue)
      raised n to e = ap (λ m. dues (set times s m) slots) e ∙ dues-set s (n + gap) slots k l refl d h ∙ ap (λ q. take k queue ++ q) (sym (ap (add_first n) (drop-dues slots k l)))

    -- ## The place where a slot is inserted

    module _ (slot left rest : ℕ) (p : enter slot left queue ≡ take k queue ++ enter slot rest (drop k queue)) where
      -- a slot is inserted before a slot that expires later
      pub enters_here : k < length slots → rest < gap → enter slot left queue ≡ take k queue ++ put slot rest (drop k queue)
      enters_here l m = grind (arith, common_steps, lt-leb, drop-dues)

      -- a slot is inserted after a slot that does not expire later
      pub enters_behind : k < length slots → gap ≤ rest → enter slot left queue ≡ take (k + 1) queue ++ enter slot (rest - gap) (drop (k + 1) queue)
      enters_behind l m =
          let t : nat_le gap rest ≡ true = le-leb gap rest m in
          let e : Due = due s gap in
          let others : List Due = drop (suc k) queue in
          let one : suc k ≡ k + 1 = omega arith in
          p ∙ ap (λ q. take k queue ++ enter slot rest q) (drop-dues slots k l)
          ∙ ap (λ b. take k queue ++ cond b (e ∷ enter slot (rest - gap) others) (put slot rest (e ∷ others))) t
          ∙ sym (append_assoc (take k queue) (e ∷ []) (enter slot (rest - gap) others))
          ∙ ap (λ q. q ++ enter slot (rest - gap) others) (sym (take-dues slots k l))
          ∙ ap (λ n. take n queue ++ enter slot (rest - gap) (drop n queue)) one

-- ## Inserting a slot

map-insert : {X Y : Type 0} (f : X → Y) (xs : List X) (k : ℕ) (x : X) → map f (insert xs k x) ≡ insert (map f xs) k (f x)
map-insert f xs k x = map-append f (take k xs) (x ∷ drop k xs) ∙ ap (λ ys. ys ++ f x ∷ map f (drop k xs)) (sym (take-map f k xs)) ∙ ap (λ ys. take k (map f xs) ++ f x ∷ ys) (sym (drop-map f k xs))

seam_take : (k : ℕ) (xs ys : List Due) → length xs ≡ k → take k (xs ++ ys) ≡ xs
seam_take k xs ys e = ap (λ n. take n (xs ++ ys)) (sym e) ∙ take-append_seam xs ys

seam_drop : (k : ℕ) (xs ys : List Due) → length xs ≡ k → drop k (xs ++ ys) ≡ ys
seam_drop k xs ys e = ap (λ n. drop n (xs ++ ys)) (sym e) ∙ drop-append_seam xs ys

-- inserting a slot at place k, if `times'` already has the gap at place k reduced by `rest`
pub entered : (times times' slots : List ℕ) (k slot rest : ℕ) → k ≤ length slots → length times' ≡ 128 → slot < 128 → list_any (nat_eq slot) slots ≡ false
    → dues times' slots ≡ take k (dues times slots) ++ less_first rest (drop k (dues times slots))
    → dues (set times' slot rest) (insert slots k slot) ≡ take k (dues times slots) ++ put slot rest (drop k (dues times slots))
entered times times' slots k slot rest l n w u e =
    let queue : List Due = dues times slots in
    let front : length (take k queue) ≡ k = length-take-le k queue (omega (arith, length-dues times slots)) in
    let others : List Due = less_first rest (drop k queue) in
    let now : dues (set times' slot rest) slots ≡ take k queue ++ others = dues-other times' slot rest slots (unheld (nat_eq slot) slots u) ∙ e in
    map-insert (λ i. due i (get_or (set times' slot rest) i 0)) slots k slot
    ∙ ap (λ m. take k (dues (set times' slot rest) slots) ++ due slot m ∷ drop k (dues (set times' slot rest) slots)) (get_or-set_same times' slot rest 0 (omega (arith, n, w)))
    ∙ ap (λ (q : List Due). take k q ++ due slot rest ∷ drop k q) now
    ∙ ap (λ q. q ++ due slot rest ∷ drop k (take k queue ++ others)) (seam_take k (take k queue) others front)
    ∙ ap (λ q. take k queue ++ due slot rest ∷ q) (seam_drop k (take k queue) others front)

-- inserting a slot at the end
pub entered_last : (times slots : List ℕ) (slot gap : ℕ) → length times ≡ 128 → slot < 128 → list_any (nat_eq slot) slots ≡ false
    → dues (set times slot gap) (slots ++ slot ∷ []) ≡ enter slot (total (dues times slots) + gap) (dues times slots)
entered_last times slots slot gap n w u =
    map-append (λ i. due i (get_or (set times slot gap) i 0)) slots (slot ∷ [])
    ∙ ap (λ m. dues (set times slot gap) slots ++ due slot m ∷ []) (get_or-set_same times slot gap 0 (omega (arith, n, w)))
    ∙ ap (λ q. q ++ due slot gap ∷ []) (dues-other times slot gap slots (unheld (nat_eq slot) slots u))
    ∙ sym (enter-last slot (total (dues times slots) + gap) (dues times slots) gap refl)

-- ## Removing a slot

pub leaves_at : (times slots : List ℕ) (k slot : ℕ) → k < length slots → get_or slots k 0 ≡ slot → IsDistinct nat_eq slots
    → leave slot (dues times slots) ≡ take k (dues times slots) ++ add_first (get_or times slot 0) (drop (suc k) (dues times slots))
leaves_at times [] k slot l e d = absurd (omega arith)
leaves_at times (i ∷ is) zero slot l e d = grind (arith, common_steps, cond-true, eq-eqb)
leaves_at times (i ∷ is) (suc k) slot l e d =
    let differs : nat_eq i slot ≡ false = ap (nat_eq i) (sym e) ∙ at_place (λ j. nat_eq i j ≡ false) is k 0 (omega arith) (IsDistinct-head nat_eq i is d) in
    cond-false (nat_eq i slot) (add_first (get_or times i 0) (dues times is)) (due i (get_or times i 0) ∷ leave slot (dues times is)) differs
    ∙ ap (λ q. due i (get_or times i 0) ∷ q) (leaves_at times is k slot (omega arith) e (IsDistinct-tail nat_eq i is d))

-- removing the entry at place k, if the entries after it were replaced by `others`
without : (k : ℕ) (queue others : List Due) → k < length queue → remove (take (suc k) queue ++ others) k ≡ take k queue ++ others
without k [] others l = absurd (omega arith)
without zero (e ∷ queue) others l = refl
without (suc k) (e ∷ queue) others l = ap (λ q. e ∷ q) (without k queue others (omega arith))

pub left_at : (times times' slots : List ℕ) (k slot gap : ℕ) → k < length slots → get_or slots k 0 ≡ slot → IsDistinct nat_eq slots → gap ≡ get_or times slot 0
    → dues times' slots ≡ take (k + 1) (dues times slots) ++ add_first gap (drop (k + 1) (dues times slots))
    → dues times' (remove slots k) ≡ leave slot (dues times slots)
left_at times times' slots k slot gap l e d g a = grind (arith, common_steps, length-dues, map-remove, without, leaves_at)

-- two adjacent gaps add up to at most the sum of all gaps
two_of_total : (queue : List Due) (k : ℕ) (d : Due) → suc k < length queue → (get_or queue k d).gap + (get_or queue (suc k) d).gap ≤ total queue
two_of_total [] k d h = absurd (omega arith)
two_of_total (e ∷ []) k d h = absurd (omega arith)
two_of_total (e ∷ f ∷ queue) zero d h = omega (arith, total-cons e (f ∷ queue), total-cons f queue)
two_of_total (e ∷ f ∷ queue) (suc k) d h = omega (arith, total-cons e (f ∷ queue), two_of_total (f ∷ queue) k d (omega arith))

gap_at : (times slots : List ℕ) (k : ℕ) → k < length slots → (get_or (dues times slots) k (due 0 0)).gap ≡ get_or times (get_or slots k 0) 0
gap_at times [] k l = absurd (omega arith)
gap_at times (i ∷ is) zero l = refl
gap_at times (i ∷ is) (suc k) l = gap_at times is k (omega arith)

pub two_fit : (times slots : List ℕ) (k slot : ℕ) → k + 1 < length slots → get_or slots k 0 ≡ slot → get_or times slot 0 + get_or times (get_or slots (k + 1) 0) 0 ≤ total (dues times slots)
two_fit times slots k slot l e =
    let one : suc k ≡ k + 1 = omega arith in
    let first : (get_or (dues times slots) k (due 0 0)).gap ≡ get_or times slot 0 = gap_at times slots k (omega arith) ∙ ap (λ i. get_or times i 0) e in
    let next : (get_or (dues times slots) (suc k) (due 0 0)).gap ≡ get_or times (get_or slots (k + 1) 0) 0 = gap_at times slots (suc k) (omega arith) ∙ ap (λ n. get_or times (get_or slots n 0) 0) one in
    omega (arith, two_of_total (dues times slots) k (due 0 0) (omega (arith, length-dues times slots, l)), first, next)

-- the remaining ticks of the last slot, after another slot or the last slot itself was removed
module _ (times slots : List ℕ) (k slot : ℕ) (l : k < length slots) (e : get_or slots k 0 ≡ slot) (d : IsDistinct nat_eq slots) where
  abbrev front : List Due
  front = take k (dues times slots)

  abbrev others : List Due
  others = drop (suc k) (dues times slots)

  total_left : total (leave slot (dues times slots)) ≡ total front + total (add_first (get_or times slot 0) others)
  total_left = ap total (leaves_at times slots k slot l e d) ∙ total-append front (add_first (get_or times slot 0) others)

  total_here : total (dues times slots) ≡ total front + (get_or times slot 0 + total others)
  total_here =
      ap total (sym (take-append-drop k (dues times slots))) ∙ total-append front (drop k (dues times slots))
      ∙ ap (λ q. total front + total q) (drop-dues times slots k l)
      ∙ ap (λ n. total front + n) (total-cons (due (get_or slots k 0) (get_or times (get_or slots k 0) 0)) others)
      ∙ ap (λ i. total front + (get_or times i 0 + total others)) e

  pub total_left_behind : k + 1 < length slots → total (leave slot (dues times slots)) ≡ total (dues times slots)
  total_left_behind m =
      let next : Due = due (get_or slots (suc k) 0) (get_or times (get_or slots (suc k) 0) 0) in
      let some : others ≡ next ∷ drop (suc (suc k)) (dues times slots) = drop-dues times slots (suc k) (omega arith) in
      let added : total (add_first (get_or times slot 0) others) ≡ get_or times slot 0 + total others =
      rw some (total-added (get_or times slot 0) next (drop (suc (suc k)) (dues times slots))) in
      omega (arith, total_left, total_here, added)

  pub total_left_last : length slots ≤ k + 1 → total (leave slot (dues times slots)) + get_or times slot 0 ≡ total (dues times slots)
  total_left_last m = grind (arith, common_steps, length-dues, drop_of_length-le, total_left, total_here)

-- ## The invariant of a queue

moved_within : (slots slots' : List ℕ) → IsPermutation slots slots' → AllByRecursion (λ i. i < 128) slots → AllByRecursion (λ i. i < 128) slots'
moved_within slots slots' p a = recursion_from_All (λ i. i < 128) slots' (All-permutation (λ i. i < 128) slots slots' p (All-from_recursion (λ i. i < 128) slots a))

module _ (times slots : List ℕ) (h : IsQueue times slots) (times' slots' : List ℕ) (all : length times' ≡ 128) where
  pub queue_entered : (slot left : ℕ) → slot < 128 → left < 2 ^ 16 → list_any (nat_eq slot) slots ≡ false → dues times' slots' ≡ enter slot left (dues times slots) → IsQueue times' slots'
  queue_entered slot left w m u e =
      let p = subst (λ is. IsPermutation (slot ∷ is) (slots_of (enter slot left (dues times slots)))) (slots_of-dues times slots) (slots-enter slot left (dues times slots)) in
      let q = subst (IsPermutation (slot ∷ slots)) (ap slots_of (sym e) ∙ slots_of-dues times' slots') p in
      record {
        all = all;
        within = moved_within (slot ∷ slots) slots' q (w, h.within);
        distinct = distinct-moved (slot ∷ slots) slots' q (IsDistinct-cons nat_eq slot slots (unheld (nat_eq slot) slots u) h.distinct);
        fits = let t = total-enter slot left (dues times slots) in let f = h.fits in rw e (omega (arith, t, f, m));
      }

  pub queue_left : (slot : ℕ) → holds slot (dues times slots) ≡ true → dues times' slots' ≡ leave slot (dues times slots) → IsQueue times' slots'
  queue_left slot u e =
      let p = subst (λ is. IsPermutation is (slot ∷ slots_of (leave slot (dues times slots)))) (slots_of-dues times slots) (slots-leave slot (dues times slots) u) in
      let q = subst (λ is. IsPermutation slots (slot ∷ is)) (ap slots_of (sym e) ∙ slots_of-dues times' slots') p in
      record {
        all = all;
        within = (moved_within slots (slot ∷ slots') q h.within).1;
        distinct = IsDistinct-tail nat_eq slot slots' (distinct-moved slots (slot ∷ slots') q h.distinct);
        fits = let t = total-leave slot (dues times slots) in let f = h.fits in rw e (omega (arith, t, f));
      }

  pub queue_lessened : (n : ℕ) → dues times' slots' ≡ less_first n (dues times slots) → slots' ≡ slots → IsQueue times' slots'
  queue_lessened n e same = grind (arith, common_steps, total-less_first)

pub queue_none : (times : List ℕ) → length times ≡ 128 → IsQueue times []
unfolding IsDistinct
queue_none times all = record { all = all; within = tt; distinct = tt; fits = ltb-true 0 (2 ^ 16) refl }

pub within_times : (times slots : List ℕ) → IsQueue times slots → (k : ℕ) → k < length slots → get_or slots k 0 < length times
within_times times slots h k l = let w : get_or slots k 0 < 128 = at_place (λ i. i < 128) slots k 0 l h.within in omega (arith, w, h.all)

pub queue_popped : (times slots : List ℕ) → IsQueue times slots → IsQueue times (remove slots 0)
queue_popped times [] h = h
queue_popped times (i ∷ is) h = grind (arith, common_steps, IsDistinct-tail, total-cons)

-- the sum of all gaps after the removal of a first slot with no ticks left, and after a tick
pub total_popped : (times slots : List ℕ) → is_spent (dues times slots) ≡ true → total (dues times (remove slots 0)) ≡ total (dues times slots)
total_popped times slots e = grind (arith, common_steps, eqb-true, total-cons)

pub total_passed : (times slots : List ℕ) → 0 < length slots → IsRunning (dues times slots) → total (less_first 1 (dues times slots)) + 1 ≡ total (dues times slots)
total_passed times slots l r = grind (arith, common_steps, total-pass)

-- ## The loop that computes the remaining ticks of each slot

module _ (times slots : List ℕ) (h : IsQueue times slots) (k left : ℕ) (l : k < length slots) where
  abbrev here : ℕ
  here = get_or slots k 0

  abbrev now : ℕ
  now = get_or times here 0

  abbrev behind_it : List ℕ
  behind_it = drop (k + 1) slots

  from_here : drop k slots ≡ here ∷ behind_it
  from_here = let e : suc k ≡ k + 1 = omega arith in drop-cons slots k 0 l ∙ ap (λ n. here ∷ drop n slots) e

  pub sum_step : left + total (dues times (drop k slots)) ≡ total (dues times slots) → left + now + total (dues times behind_it) ≡ total (dues times slots)
  sum_step e = grind (arith, common_steps, total-cons, from_here)

  pub done_step : (lefts : List ℕ) → length lefts ≡ 128 → AllByRecursion (λ i. get_or lefts i 0 ≡ ticks_left (dues times slots) i) (take k slots)
      → left + now ≡ ticks_left (dues times slots) here → AllByRecursion (λ i. get_or (set lefts here (left + now)) i 0 ≡ ticks_left (dues times slots) i) (take (k + 1) slots)
  done_step lefts n a e =
      let w : here < 128 = at_place (λ i. i < 128) slots k 0 l h.within in
      let P : ℕ → Type 0 = λ i. get_or (set lefts here (left + now)) i 0 ≡ ticks_left (dues times slots) i in
      subst (AllByRecursion P) (sym (take_more slots k 0 l))
      (all-push P (take k slots) here
      (all-both (λ i. nat_eq here i ≡ false) (λ i. get_or lefts i 0 ≡ ticks_left (dues times slots) i) P (λ i d q. get_or-set_other lefts here i (left + now) 0 (λ p. eqb-false here i d (sym p)) ∙ q) (take k slots) (not_before slots k l h.distinct) a)
      (get_or-set_same lefts here (left + now) 0 (omega (arith, w, n)) ∙ e))

  module _ (a : AllByRecursion (λ i. left + ticks_left (dues times (drop k slots)) i ≡ ticks_left (dues times slots) i) (drop k slots)) where
    all_here : AllByRecursion (λ i. left + ticks_left (due here now ∷ dues times behind_it) i ≡ ticks_left (dues times slots) i) (here ∷ behind_it)
    all_here = subst (λ (is : List ℕ). AllByRecursion (λ i. left + ticks_left (dues times is) i ≡ ticks_left (dues times slots) i) is) from_here a

    pub here_step : left + now ≡ ticks_left (dues times slots) here
    here_step = ap (λ n. left + n) (sym (at_first (due here now) (dues times behind_it) here (eq-eqb here here refl))) ∙ all_here.0

    pub rest_step : AllByRecursion (λ i. left + now + ticks_left (dues times behind_it) i ≡ ticks_left (dues times slots) i) behind_it
    rest_step =
        let e : suc k ≡ k + 1 = omega arith in
        all-both (λ i. nat_eq here i ≡ false) (λ i. left + ticks_left (due here now ∷ dues times behind_it) i ≡ ticks_left (dues times slots) i) (λ i. left + now + ticks_left (dues times behind_it) i ≡ ticks_left (dues times slots) i)
        (λ i d q. let b = behind (due here now) (dues times behind_it) i d in omega (arith, b, q)) behind_it
        (subst (λ n. AllByRecursion (λ i. nat_eq here i ≡ false) (drop n slots)) e (not_behind slots k l h.distinct)) all_here.1

  -- the same sum for one slot alone
  module _ (slot : ℕ) (r : left + ticks_left (dues times (drop k slots)) slot ≡ ticks_left (dues times slots) slot) where
    one_from : left + ticks_left (due here now ∷ dues times behind_it) slot ≡ ticks_left (dues times slots) slot
    one_from = ap (λ (is : List ℕ). left + ticks_left (dues times is) slot) (sym from_here) ∙ r

    pub one_here : here ≡ slot → left + now ≡ ticks_left (dues times slots) slot
    one_here e = ap (λ n. left + n) (sym (at_first (due here now) (dues times behind_it) slot (eq-eqb here slot e))) ∙ one_from

    pub one_behind : (here ≡ slot → ⊥) → left + now + ticks_left (dues times behind_it) slot ≡ ticks_left (dues times slots) slot
    one_behind d = omega (arith, one_from, behind (due here now) (dues times behind_it) slot (ne_eqb here slot d))

pub one_after : (times slots : List ℕ) (k left slot : ℕ) → length slots ≤ k → left + ticks_left (dues times (drop k slots)) slot ≡ ticks_left (dues times slots) slot → left ≡ ticks_left (dues times slots) slot
one_after times slots k left slot l r = grind (arith, common_steps, drop_of_length-le)

pub some_there : (slots : List ℕ) → false ≡ nat_eq (length slots) 0 → 0 < length slots
some_there slots h = let n = eqb-false (length slots) 0 (sym h) in omega (arith, n)

-- if P holds for every index in a list, it holds for `slot` if the list contains `slot`
all_of : (P : ℕ → Type 0) (slot : ℕ) (is : List ℕ) → AllByRecursion P is → list_any (nat_eq slot) is ≡ true → P slot
all_of P slot [] a h = cc
all_of P slot (i ∷ is) a h =
    elim (cases_Bool (nat_eq slot i)) [
      | inl t ↦ subst P (sym (eqb-true slot i t)) a.0
      | inr f ↦ all_of P slot is a.1 (ap (λ b. b || list_any (nat_eq slot) is) (sym f) ∙ h)
    ]

pub lefts_of : (times slots lefts : List ℕ) (shown : List Due) → dues times slots ≡ shown → AllByRecursion (λ i. get_or lefts i 0 ≡ ticks_left (dues times slots) i) slots
    → (slot : ℕ) → holds slot shown ≡ true → get_or lefts slot 0 ≡ ticks_left shown slot
lefts_of times slots lefts shown e a slot h = grind (arith, common_steps, all_of, holds-dues)
