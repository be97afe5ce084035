-- The effect of each queue operation on the remaining ticks of the slots.
use Rattle.std.proofs.Common.{◌≡◌, ℕ, ◌+◌, ◌-◌, ◌<◌, ◌≤◌, true, false, ◌||◌, cond, nat_eq, nat_le, List, [], ◌∷◌, ◌++◌, refl, inl, inr, ap, ◌∙◌, sym, arith, max, subst}
use Rattle.std.proofs.lemmas.List.Sums.{sum_by-cons}
use Rattle.std.proofs.lemmas.Bool.{cases_Bool, le-leb, leb-true, leb-false, or_parts, cond-true, cond-false, eqb-true, eqb-false, eq-eqb, ne_eqb}
use Rattle.lldp_table.specs.Code.Queue.{Due, due, holds, ticks_left, enter, add_first, less_first, leave, IsRunning, total, slots_of}
use Rattle.std.proofs.lemmas.Grind.{common_steps}
use Rattle.std.specs.List.Sorted.{IsPermutation}
use Rattle.std.proofs.lemmas.List.Sorted.{IsPermutation-refl, IsPermutation-cons, IsPermutation-trans, IsPermutation-append_comm, IsPermutation-append_left}

-- ## The remaining ticks of the first slot, and of any other slot

-- the first slot's remaining ticks are its gap; for any other slot, add the gaps up to its own
pub at_first : (e : Due) (queue : List Due) (slot : ℕ) → nat_eq e.slot slot ≡ true → ticks_left (e ∷ queue) slot ≡ e.gap
at_first e queue slot t = cond-true (nat_eq e.slot slot) e.gap (e.gap + ticks_left queue slot) t

pub behind : (e : Due) (queue : List Due) (slot : ℕ) → nat_eq e.slot slot ≡ false → ticks_left (e ∷ queue) slot ≡ e.gap + ticks_left queue slot
behind e queue slot f = cond-false (nat_eq e.slot slot) e.gap (e.gap + ticks_left queue slot) f

holds_behind : (e : Due) (queue : List Due) (slot : ℕ) → nat_eq e.slot slot ≡ false → holds slot (e ∷ queue) ≡ true → holds slot queue ≡ true
holds_behind e queue slot f h = ap (λ b. b || holds slot queue) (sym f) ∙ h

-- ## Inserting a slot

-- an inserted slot has the given number of ticks left
pub left-enter_same : (slot left : ℕ) (queue : List Due) → holds slot queue ≡ false → ticks_left (enter slot left queue) slot ≡ left
left-enter_same slot left [] h = at_first (due slot left) [] slot (eq-eqb slot slot refl)
left-enter_same slot left (e ∷ queue) h =
    let p = or_parts (nat_eq e.slot slot) (holds slot queue) h in
    elim (cases_Bool (nat_le e.gap left)) [
      | inl t ↦
          let ih = left-enter_same slot (left - e.gap) queue p.1 in
          let m = leb-true e.gap left t in
          rw t (behind e (enter slot (left - e.gap) queue) slot p.0 ∙ omega (arith, ih))
      | inr f ↦ rw f (at_first (due slot left) ((due e.slot (e.gap - left)) ∷ queue) slot (eq-eqb slot slot refl))
    ]

same_front : (e : Due) (queue before : List Due) (slot : ℕ) → (nat_eq e.slot slot ≡ false → ticks_left queue slot ≡ ticks_left before slot) → ticks_left (e ∷ queue) slot ≡ ticks_left (e ∷ before) slot
same_front e queue before slot h = grind (arith, common_steps, cases_Bool, at_first, behind)

-- splitting a gap in two does not change the remaining ticks of the other slots
cut : (slot left other : ℕ) (e : Due) (queue : List Due) → left ≤ e.gap → nat_eq slot other ≡ false → ticks_left ((due slot left) ∷ (due e.slot (e.gap - left)) ∷ queue) other ≡ ticks_left (e ∷ queue) other
cut slot left other e queue l d = grind (arith, common_steps, cases_Bool, at_first, behind)

-- inserting a slot does not change the remaining ticks of the others
pub left-enter_other : (slot left other : ℕ) (queue : List Due) → nat_eq slot other ≡ false → holds other queue ≡ true → ticks_left (enter slot left queue) other ≡ ticks_left queue other
left-enter_other slot left other [] d h = cc
left-enter_other slot left other (e ∷ queue) d h =
    elim (cases_Bool (nat_le e.gap left)) [
      | inl t ↦ ap (λ b. ticks_left (cond b (e ∷ enter slot (left - e.gap) queue) ((due slot left) ∷ (due e.slot (e.gap - left)) ∷ queue)) other) t
          ∙ same_front e (enter slot (left - e.gap) queue) queue other (λ f. left-enter_other slot (left - e.gap) other queue d (holds_behind e queue other f h))
      | inr f ↦
          let m = leb-false e.gap left f in
          let l : left ≤ e.gap = omega arith in
          ap (λ b. ticks_left (cond b (e ∷ enter slot (left - e.gap) queue) ((due slot left) ∷ (due e.slot (e.gap - left)) ∷ queue)) other) f ∙ cut slot left other e queue l d
    ]

-- ## Removing a slot

left-add_first : (n slot : ℕ) (queue : List Due) → holds slot queue ≡ true → ticks_left (add_first n queue) slot ≡ n + ticks_left queue slot
left-add_first n slot queue h = grind (arith, common_steps, cases_Bool, at_first, behind)

-- removing a slot does not change the remaining ticks of the others
pub left-leave : (slot other : ℕ) (queue : List Due) → nat_eq slot other ≡ false → holds other queue ≡ true → ticks_left (leave slot queue) other ≡ ticks_left queue other
left-leave slot other [] d h = cc
left-leave slot other (e ∷ queue) d h =
    elim (cases_Bool (nat_eq e.slot slot)) [
      | inl t ↦
          let f : nat_eq e.slot other ≡ false = ap (λ n. nat_eq n other) (eqb-true e.slot slot t) ∙ d in
          ap (λ b. ticks_left (cond b (add_first e.gap queue) (e ∷ leave slot queue)) other) t
          ∙ left-add_first e.gap other queue (holds_behind e queue other f h) ∙ sym (behind e queue other f)
      | inr f ↦ ap (λ b. ticks_left (cond b (add_first e.gap queue) (e ∷ leave slot queue)) other) f
          ∙ same_front e (leave slot queue) queue other (λ g. left-leave slot other queue d (holds_behind e queue other g h))
    ]

-- ## A tick

pub running_first : (e : Due) (queue : List Due) → IsRunning (e ∷ queue) → 0 < e.gap
running_first e queue r = let n = eqb-false e.gap 0 r in omega (arith, n)

-- a tick subtracts one from the remaining ticks of each slot
pub left-pass : (slot : ℕ) (queue : List Due) → IsRunning queue → holds slot queue ≡ true → ticks_left (less_first 1 queue) slot ≡ ticks_left queue slot - 1
left-pass slot queue r h = grind (arith, common_steps, cases_Bool, at_first, behind, running_first)

-- if the first slot has ticks left, every other slot does too
pub left-positive : (slot : ℕ) (queue : List Due) → IsRunning queue → holds slot queue ≡ true → 0 < ticks_left queue slot
left-positive slot queue r h = grind (arith, common_steps, running_first, cases_Bool, at_first, behind)

-- a first slot with gap 0 has no ticks left, and the others have as many as they would without it
pub left-front_same : (slot : ℕ) (queue : List Due) → ticks_left ((due slot 0) ∷ queue) slot ≡ 0
left-front_same slot queue = at_first (due slot 0) queue slot (eq-eqb slot slot refl)

pub left-front_other : (slot other : ℕ) (queue : List Due) → nat_eq slot other ≡ false → ticks_left ((due slot 0) ∷ queue) other ≡ ticks_left queue other
left-front_other slot other queue d = behind (due slot 0) queue other d ∙ omega arith

-- ## The sum of the gaps

pub total-cons : (e : Due) (queue : List Due) → total (e ∷ queue) ≡ e.gap + total queue
total-cons e queue = sum_by-cons (λ (d : Due). d.gap) e queue

pub total-enter : (slot left : ℕ) (queue : List Due) → total (enter slot left queue) ≡ max (total queue) left
total-enter slot left [] = omega arith
total-enter slot left (e ∷ queue) = grind (arith, common_steps, total-cons, cases_Bool, leb-true, leb-false, total-enter slot (left - e.gap) queue)

pub total-leave : (slot : ℕ) (queue : List Due) → total (leave slot queue) ≤ total queue
total-leave slot [] = omega arith
total-leave slot (e ∷ queue) = grind (arith, common_steps, total-cons, cases_Bool, total-leave slot queue)

pub total-less_first : (n : ℕ) (queue : List Due) → total (less_first n queue) ≤ total queue
total-less_first n queue = grind (arith, common_steps, total-cons)

pub total-append : (queue others : List Due) → total (queue ++ others) ≡ total queue + total others
total-append [] others = omega arith
total-append (e ∷ queue) others = omega (arith, total-cons e (queue ++ others), total-cons e queue, total-append queue others)

-- adding n to the first gap adds n to the sum
pub total-added : (n : ℕ) (e : Due) (queue : List Due) → total (add_first n (e ∷ queue)) ≡ n + total (e ∷ queue)
total-added n e queue = omega (arith, total-cons e queue, total-cons (due e.slot (n + e.gap)) queue)

-- a tick subtracts one from the sum of the gaps
pub total-pass : (e : Due) (queue : List Due) → IsRunning (e ∷ queue) → total (less_first 1 (e ∷ queue)) + 1 ≡ total (e ∷ queue)
total-pass e queue r = omega (arith, running_first e queue r, total-cons e queue, total-cons (due e.slot (e.gap - 1)) queue)

-- a slot that does not expire before the last one is inserted at the end
pub enter-last : (slot left : ℕ) (queue : List Due) (gap : ℕ) → left ≡ total queue + gap → enter slot left queue ≡ queue ++ due slot gap ∷ []
enter-last slot left [] gap e = ap (λ n. due slot n ∷ []) (omega arith)
enter-last slot left (d ∷ queue) gap e =
    let sum : d.gap + total queue ≡ total (d ∷ queue) = sym (total-cons d queue) in
    let t : nat_le d.gap left ≡ true = le-leb d.gap left (omega arith) in
    rw t (ap (λ q. d ∷ q) (enter-last slot (left - d.gap) queue gap (omega arith)))

-- ## Which slots are in the queue, and whether the first slot has ticks left

-- swapping the first two elements of a list gives a permutation of it
pub first_two : (a b : ℕ) (rest : List ℕ) → IsPermutation (a ∷ b ∷ rest) (b ∷ a ∷ rest)
first_two a b rest = IsPermutation-append_left rest (a ∷ b ∷ []) (b ∷ a ∷ []) (IsPermutation-append_comm (a ∷ []) (b ∷ []))

pub slots-less_first : (n : ℕ) (queue : List Due) → slots_of (less_first n queue) ≡ slots_of queue
slots-less_first n queue = grind (arith, common_steps)

-- inserting a slot adds exactly this slot
pub slots-enter : (slot left : ℕ) (queue : List Due) → IsPermutation (slot ∷ slots_of queue) (slots_of (enter slot left queue))
slots-enter slot left [] = IsPermutation-refl (slot ∷ [])
slots-enter slot left (e ∷ queue) =
    elim (cases_Bool (nat_le e.gap left)) [
      | inl t ↦ rw t (IsPermutation-trans (slot ∷ e.slot ∷ slots_of queue) (e.slot ∷ slot ∷ slots_of queue) (e.slot ∷ slots_of (enter slot (left - e.gap) queue)) (first_two slot e.slot (slots_of queue))
          (IsPermutation-cons e.slot (slot ∷ slots_of queue) (slots_of (enter slot (left - e.gap) queue)) (slots-enter slot (left - e.gap) queue)))
      | inr f ↦ rw f (IsPermutation-refl (slot ∷ e.slot ∷ slots_of queue))
    ]

slots-add_first : (n : ℕ) (queue : List Due) → slots_of (add_first n queue) ≡ slots_of queue
slots-add_first n queue = grind (arith, common_steps)

-- removing a slot removes exactly this slot
pub slots-leave : (slot : ℕ) (queue : List Due) → holds slot queue ≡ true → IsPermutation (slots_of queue) (slot ∷ slots_of (leave slot queue))
slots-leave slot [] h = cc
slots-leave slot (e ∷ queue) h =
    elim (cases_Bool (nat_eq e.slot slot)) [
      | inl t ↦ rw t (subst (λ xs. IsPermutation (e.slot ∷ slots_of queue) xs) (ap (λ s. s ∷ slots_of queue) (eqb-true e.slot slot t) ∙ ap (λ xs. slot ∷ xs) (sym (slots-add_first e.gap queue))) (IsPermutation-refl (e.slot ∷ slots_of queue)))
      | inr f ↦
          let behind : holds slot queue ≡ true = ap (λ b. b || holds slot queue) (sym f) ∙ h in
          rw f (IsPermutation-trans (e.slot ∷ slots_of queue) (e.slot ∷ slot ∷ slots_of (leave slot queue)) (slot ∷ e.slot ∷ slots_of (leave slot queue))
          (IsPermutation-cons e.slot (slots_of queue) (slot ∷ slots_of (leave slot queue)) (slots-leave slot queue behind)) (first_two e.slot slot (slots_of (leave slot queue))))
    ]

pub running-enter : (slot left : ℕ) (queue : List Due) → 0 < left → IsRunning queue → IsRunning (enter slot left queue)
running-enter slot left queue l r = grind (arith, common_steps, ne_eqb)

pub running-leave : (slot : ℕ) (queue : List Due) → IsRunning queue → IsRunning (leave slot queue)
running-leave slot queue r = grind (arith, common_steps, ne_eqb, running_first)
