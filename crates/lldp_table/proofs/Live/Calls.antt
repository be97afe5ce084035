-- The effect of each call on the live neighbors, neighbor by neighbor.
use Rattle.std.proofs.Common.{◌≡◌, ℕ, zero, suc, ◌-◌, ◌<◌, ◌↔◌, max, true, false, cond, ◌⊎◌, List, [], ◌∷◌, ◌++◌, Some, None, refl, inl, inr, ap, ◌∙◌, sym, subst, arith, not, Bool, length, Option, is_some, is_none}
use Rattle.std.specs.List.{Contains, filter, AllByRecursion}
use Rattle.std.specs.Option.{option_and_then}
use Rattle.std.proofs.lemmas.Bool.{cases_Bool, false≢true, ltb-true, lt-ltb, cond-true}
use Rattle.std.proofs.lemmas.Option.{cond_some, option_and_then_some}
use Rattle.lldp_pdu.specs.Msap.{MsapId}
use Rattle.lldp_table.specs.Msap.{same_msap}
use Rattle.lldp_table.specs.Events.{Call, learn, forget, purge, tick, set_limit, TableEvent, learned, forgot, ticked, Neighbor, live, neighbors, gone, aged_out, limit_after, too_many_left, answer, is_stored, events_of}
use Rattle.lldp_table.specs.Standing.{table_of}
use Rattle.lldp_table.specs.Laws.Changes.{a_tick_before, just_stored, is_tick, sets_limit}
use Rattle.lldp_table.specs.Code.Steps.{aged}
use Rattle.lldp_table.specs.declared.learned.Learned.{Learned}
use Rattle.lldp_table.specs.declared.learned.Learned.TheVariants.{Dropped}
use Rattle.lldp_table.proofs.Msap.{same_msap-refl, same_msap-true}
use Rattle.lldp_table.proofs.Live.Events.{has-live, live-other, live-ticked, live-stored, neighbors-purged, neighbors-dropped, neighbors-limit_set, too_many-ticked, too_many-dropped}
use Rattle.lldp_table.specs.Contents.{holds_name}
use Rattle.std.proofs.lemmas.List.Sums.{length-filter}
use Rattle.std.proofs.lemmas.List.Elements.{All-contains, All-contains_itself, All-filter, All-from_recursion}
use Rattle.lldp_table.proofs.Slots.Places.{all-weaker}
use Rattle.lldp_table.proofs.Standing.Calls.{arrived, events-more}
use Rattle.lldp_table.proofs.Live.LastStored.{last_from_live, live_from_last, last_stored_from_held, held_from_last_stored}
use Rattle.std.proofs.lemmas.Grind.{common_steps}

-- a neighbor is held exactly if it is the live neighbor with its MSAP identifier
module _ (opened : ℕ) (calls : List Call) (x : Neighbor) where
  pub live_from_held : Contains (neighbors (events_of opened calls)) x → live x.msap (events_of opened calls) ≡ Some x
  live_from_held c = live_from_last (events_of opened calls) x (last_stored_from_held opened calls x c)

  pub held_from_live : live x.msap (events_of opened calls) ≡ Some x → Contains (neighbors (events_of opened calls)) x
  held_from_live e = held_from_last_stored opened calls x (last_from_live (events_of opened calls) x e)

-- ## Forgetting an MSAP identifier

not_same : (name : MsapId) (x : Neighbor) → ¬ (x.msap ≡ name) → same_msap name x.msap ≡ false
not_same name x n = elim (cases_Bool (same_msap name x.msap)) [ inl t ↦ absurd (n (sym (same_msap-true name x.msap t))) | inr d ↦ d ]

module _ (past : List TableEvent) (name : MsapId) (x : Neighbor) where
  pub live_forgot : live x.msap (forgot name ∷ past) ≡ Some x → (live x.msap past ≡ Some x) × (¬ (x.msap ≡ name))
  live_forgot h = grind (arith, common_steps, live-other, false≢true, same_msap-refl)

  pub forgot_live : live x.msap past ≡ Some x → ¬ (x.msap ≡ name) → live x.msap (forgot name ∷ past) ≡ Some x
  forgot_live h n = live-other x.msap (forgot name) past refl ∙ ap (λ b. cond b None (live x.msap past)) (not_same name x n) ∙ h

-- ## A tick

is_left : (x : Neighbor) → 0 < x.left → aged (a_tick_before x) ≡ Some x
is_left x l = grind (arith, common_steps, cond-true, lt-ltb)

module _ (past : List TableEvent) (x : Neighbor) where
  pub live_before : live x.msap (ticked ∷ past) ≡ Some x → (0 < x.left) × (live x.msap past ≡ Some (a_tick_before x))
  live_before h = grind (arith, common_steps, option_and_then_some, live-ticked, cond_some, ltb-true)

  pub live_a_tick_later : 0 < x.left → live x.msap past ≡ Some (a_tick_before x) → live x.msap (ticked ∷ past) ≡ Some x
  live_a_tick_later l h = live-ticked x.msap past ∙ ap (option_and_then aged) h ∙ is_left x l

-- ## Storing a frame

module _ (past : List TableEvent) (name : MsapId) (ttl : ℕ) (octets : List ℕ) (answer : Learned) (x : Neighbor) where
  pub live_stored : 0 < ttl → is_stored answer ≡ true → live x.msap (learned name ttl octets answer ∷ past) ≡ Some x → (x ≡ just_stored name ttl octets) ⊎ ((live x.msap past ≡ Some x) × (¬ (x.msap ≡ name)))
  live_stored l s h = grind (arith, common_steps, live-stored, false≢true, same_msap-refl)

  pub stored_live : 0 < ttl → is_stored answer ≡ true → (x ≡ just_stored name ttl octets) ⊎ ((live x.msap past ≡ Some x) × (¬ (x.msap ≡ name))) → live x.msap (learned name ttl octets answer ∷ past) ≡ Some x
  stored_live l s h = grind (arith, common_steps, live-stored, same_msap-refl, not_same)

pub stored_is : (a : Learned) → ¬ (a ≡ Dropped) → is_stored a ≡ true
stored_is a n = grind (arith, common_steps)

-- ## The limit

pub limit_is_set : (opened limit : ℕ) (later calls : List Call) → AllByRecursion (λ call. sets_limit call ≡ false) later → limit_after opened (events_of opened (later ++ set_limit limit ∷ calls)) ≡ limit
unfolding events_of
limit_is_set opened limit [] calls a = refl
limit_is_set opened limit (set_limit other ∷ later) calls a = cc a.0
limit_is_set opened limit (call ∷ later) calls a = limit_is_set opened limit later calls a.1

pub limit_is_opened : (opened : ℕ) (calls : List Call) → AllByRecursion (λ call. sets_limit call ≡ false) calls → limit_after opened (events_of opened calls) ≡ opened
unfolding events_of
limit_is_opened opened [] a = refl
limit_is_opened opened (set_limit other ∷ calls) a = cc a.0
limit_is_opened opened (call ∷ calls) a = limit_is_opened opened calls a.1

-- ## Tables

module _ (opened : ℕ) (calls : List Call) where
  abbrev past : List TableEvent
  past = events_of opened calls

  pub forget_held : (name : MsapId) (x : Neighbor) → Contains (table_of opened (forget name ∷ calls)).neighbors x ↔ (Contains (table_of opened calls).neighbors x × (¬ (x.msap ≡ name)))
  unfolding events_of
  forget_held name x = (
    λ c. let p = live_forgot past name x (live_from_held opened (forget name ∷ calls) x c) in (held_from_live opened calls x p.0, p.1),
    λ p. held_from_live opened (forget name ∷ calls) x (forgot_live past name x (live_from_held opened calls x p.0) p.1),
  )

  pub forget_others : (name : MsapId) → record (table_of opened (forget name ∷ calls)) { neighbors = (table_of opened calls).neighbors; gone = (table_of opened calls).gone } ≡ table_of opened calls
  unfolding events_of too_many_left
  forget_others name = refl

  pub tick_held : (x : Neighbor) → Contains (table_of opened (tick ∷ calls)).neighbors x ↔ ((0 < x.left) × Contains (table_of opened calls).neighbors (a_tick_before x))
  unfolding events_of
  tick_held x = (
    λ c. let p = live_before past x (live_from_held opened (tick ∷ calls) x c) in (p.0, held_from_live opened calls (a_tick_before x) p.1),
    λ p. held_from_live opened (tick ∷ calls) x (live_a_tick_later past x p.0 (live_from_held opened calls (a_tick_before x) p.1)),
  )

  -- ### The neighbors that aged out

  module _ (p : Neighbor → Bool) where
    all_pass : (xs : List Neighbor) → AllByRecursion (λ y. p y ≡ true) (filter p xs)
    all_pass [] = tt
    all_pass (y ∷ ys) = elim (cases_Bool (p y)) [ inl t ↦ rw t (t, all_pass ys) | inr d ↦ rw d (all_pass ys) ]

    one_more : (y x : Neighbor) (ys : List Neighbor) → Contains (filter p ys) x → Contains (filter p (y ∷ ys)) x
    one_more y x ys c = elim (cases_Bool (p y)) [ inl t ↦ rw t (suc c.0, omega (arith, c.1), c.2) | inr d ↦ rw d c ]

    all_in : (xs : List Neighbor) → AllByRecursion (λ y. p y ≡ true → Contains (filter p xs) y) xs
    all_in [] = tt
    all_in (y ∷ ys) = (λ t. rw t (zero, omega arith, refl), all-weaker (λ x. p x ≡ true → Contains (filter p ys) x) (λ x. p x ≡ true → Contains (filter p (y ∷ ys)) x) (λ x h t. one_more y x ys (h t)) ys (all_in ys))

    of_filter : (xs : List Neighbor) (x : Neighbor) → Contains (filter p xs) x → Contains xs x × (p x ≡ true)
    of_filter xs x c = (
      All-contains (Contains xs) (filter p xs) x (All-filter p (Contains xs) xs (All-contains_itself xs)) c,
      All-contains (λ y. p y ≡ true) (filter p xs) x (All-from_recursion (λ y. p y ≡ true) (filter p xs) (all_pass xs)) c,
    )

    in_filter : (xs : List Neighbor) (x : Neighbor) → Contains xs x → p x ≡ true → Contains (filter p xs) x
    in_filter xs x c t = All-contains (λ y. p y ≡ true → Contains (filter p xs) y) xs x (All-from_recursion (λ y. p y ≡ true → Contains (filter p xs) y) xs (all_in xs)) c t

  held_now : (m : MsapId) → holds_name (table_of opened (tick ∷ calls)) m ≡ is_some (live m (ticked ∷ past))
  unfolding events_of
  held_now m = has-live (ticked ∷ past) (arrived opened (tick ∷ calls)) m

  as_held : (xs : List Neighbor) → filter (λ (x : Neighbor). is_none (live x.msap (ticked ∷ past))) xs ≡ filter (λ (x : Neighbor). not (holds_name (table_of opened (tick ∷ calls)) x.msap)) xs
  as_held [] = refl
  as_held (x ∷ xs) =
      ap (λ b. cond b (x ∷ filter (λ (y : Neighbor). is_none (live y.msap (ticked ∷ past))) xs) (filter (λ (y : Neighbor). is_none (live y.msap (ticked ∷ past))) xs)) (one (live x.msap (ticked ∷ past)) ∙ ap not (sym (held_now x.msap)))
      ∙ ap (λ ys. cond (not (holds_name (table_of opened (tick ∷ calls)) x.msap)) (x ∷ ys) ys) (as_held xs)
    where
      one : (o : Option Neighbor) → is_none o ≡ not (is_some o)
      one None = refl
      one (Some y) = refl

  pub gone_order : (table_of opened (tick ∷ calls)).gone ≡ filter (λ (x : Neighbor). not (holds_name (table_of opened (tick ∷ calls)) x.msap)) (table_of opened calls).neighbors
  gone_order = ap gone (events-more opened tick calls) ∙ as_held (neighbors past)

  pub gone_held : (x : Neighbor) → Contains (table_of opened (tick ∷ calls)).gone x ↔ (Contains (table_of opened calls).neighbors x × (holds_name (table_of opened (tick ∷ calls)) x.msap ≡ false))
  gone_held x = (
    λ c. let p = of_filter (λ (y : Neighbor). not (holds_name (table_of opened (tick ∷ calls)) y.msap)) (neighbors past) x (subst (λ ys. Contains ys x) gone_order c) in (p.0, not_true _ p.1),
    λ p. subst (λ ys. Contains ys x) (sym gone_order) (in_filter (λ (y : Neighbor). not (holds_name (table_of opened (tick ∷ calls)) y.msap)) (neighbors past) x p.0 (ap not p.1)),
  )
    where
      not_true : (b : Bool) → not b ≡ true → b ≡ false
      not_true true n = cc
      not_true false n = refl

  pub gone_number : length (table_of opened (tick ∷ calls)).gone ≡ aged_out past
  gone_number = ap (λ events. length (gone events)) (events-more opened tick calls) ∙ length-filter (λ (x : Neighbor). is_none (live x.msap (ticked ∷ past))) (neighbors past)

  pub gone_none : (call : Call) → is_tick call ≡ false → (table_of opened (call ∷ calls)).gone ≡ []
  unfolding events_of
  gone_none (learn name ttl octets) h = refl
  gone_none (forget name) h = refl
  gone_none purge h = refl
  gone_none tick h = cc
  gone_none (set_limit limit) h = refl

  pub tick_timer : (table_of opened (tick ∷ calls)).too_many_left ≡ (table_of opened calls).too_many_left - 1
  unfolding events_of
  tick_timer = too_many-ticked past

  pub tick_limit : (table_of opened (tick ∷ calls)).limit ≡ (table_of opened calls).limit
  unfolding events_of
  tick_limit = refl

  pub purge_leaves : table_of opened (purge ∷ calls) ≡ record (table_of opened calls) { neighbors = []; gone = []; too_many_left = 0 }
  unfolding events_of too_many_left
  purge_leaves = ap (λ xs. record (table_of opened calls) { neighbors = xs; gone = []; too_many_left = 0 }) (neighbors-purged past)

  pub set_limit_leaves : (limit : ℕ) → table_of opened (set_limit limit ∷ calls) ≡ record (table_of opened calls) { limit = limit; gone = [] }
  unfolding events_of too_many_left
  set_limit_leaves limit = ap (λ xs. record (table_of opened calls) { limit = limit; neighbors = xs; gone = [] }) (neighbors-limit_set limit past)

  module _ (name : MsapId) (ttl : ℕ) (octets : List ℕ) where
    pub learn_held : (x : Neighbor) → 0 < ttl → ¬ (answer opened name (events_of opened calls) ≡ Dropped) → Contains (table_of opened (learn name ttl octets ∷ calls)).neighbors x ↔ ((x ≡ just_stored name ttl octets) ⊎ (Contains (table_of opened calls).neighbors x × (¬ (x.msap ≡ name))))
    unfolding events_of
    learn_held x l n =
        let a = answer opened name past in
        let s = stored_is a n in (
          λ c. elim (live_stored past name ttl octets a x l s (live_from_held opened (learn name ttl octets ∷ calls) x c)) [ inl e ↦ inl e | inr p ↦ inr (held_from_live opened calls x p.0, p.1) ],
          λ h. held_from_live opened (learn name ttl octets ∷ calls) x (stored_live past name ttl octets a x l s (elim h [ inl e ↦ inl e | inr p ↦ inr (live_from_held opened calls x p.0, p.1) ])),
        )

    others_stay : (a : Learned) → ¬ (a ≡ Dropped) → too_many_left (learned name ttl octets a ∷ past) ≡ too_many_left past
    unfolding too_many_left
    others_stay a n = grind (arith, common_steps)

    pub learn_others : ¬ (answer opened name (events_of opened calls) ≡ Dropped) → record (table_of opened (learn name ttl octets ∷ calls)) { neighbors = (table_of opened calls).neighbors; gone = (table_of opened calls).gone } ≡ table_of opened calls
    unfolding events_of
    learn_others n = ap (λ left. record (table_of opened calls) { too_many_left = left }) (others_stay (answer opened name past) n)

    pub learn_dropped : answer opened name (events_of opened calls) ≡ Dropped → table_of opened (learn name ttl octets ∷ calls) ≡ record (table_of opened calls) { gone = []; too_many_left = max (table_of opened calls).too_many_left ttl }
    unfolding events_of
    learn_dropped e = grind (arith, common_steps, neighbors-dropped, too_many-dropped)
