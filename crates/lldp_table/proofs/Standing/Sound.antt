-- A sound table is still sound after each call.
use Rattle.std.proofs.Common.{◌≡◌, ℕ, suc, ◌-◌, ◌<◌, ◌≤◌, Bool, false, not, nat_lt, List, [], ◌∷◌, length, Option, Some, None, refl, ap, ◌∙◌, sym, subst, arith, map, length-append}
use Rattle.std.specs.List.{list_any, filter, filter_map, cons_option, AllByRecursion, IsDistinct}
use Rattle.std.proofs.lemmas.Bool.{ltb-true, or_parts, or_from, cond_both}
use Rattle.std.proofs.lemmas.List.{length-map, map-append}
use Rattle.std.proofs.lemmas.Option.{cond_some}
use Rattle.std.proofs.lemmas.List.Elements.{All-filter, All-from_recursion, recursion_from_All}
use Rattle.std.proofs.lemmas.Map.Keys.{IsDistinct-cons, IsDistinct-head, IsDistinct-tail, IsDistinct-push}
use Rattle.lldp_pdu.specs.Msap.{MsapId}
use Rattle.lldp_table.specs.Msap.{same_msap}
use Rattle.lldp_table.proofs.Msap.{same_msap-laws, same_msap-true}
use Rattle.lldp_table.specs.Events.{Neighbor, Call, learn, forget, purge, tick, set_limit}
use Rattle.lldp_table.specs.Contents.{Contents, is_named, holds_name, IsExtent, IsHeld, IsSound, names_of}
use Rattle.lldp_table.specs.Code.Steps.{aged, expires, fresh, refreshed, learn_answer, learned_as, after_learn, after_forget, after_purge, after_tick, after_set_limit, newly_opened, table_after}
use Rattle.lldp_table.specs.Standing.{IsNewLimit, IsPossible}
use Rattle.lldp_table.proofs.Live.Events.{keep, filter_map-keep, by_new}
use Rattle.lldp_table.proofs.Slots.Places.{all-push}
use Rattle.lldp_table.specs.declared.learned.Learned.{Learned}
use Rattle.lldp_table.specs.declared.learned.Learned.TheVariants.{New, Refreshed}
use Rattle.std.proofs.lemmas.Grind.{common_steps}

-- ## Keeping some of the neighbors, with their MSAP identifiers unchanged

module _ (g : Neighbor → Option Neighbor) (same : (x y : Neighbor) → g x ≡ Some y → y.msap ≡ x.msap) where
  all-cons : (P : MsapId → Type 0) (x : Neighbor) (o : Option Neighbor) (xs : List Neighbor) → ((y : Neighbor) → o ≡ Some y → y.msap ≡ x.msap) → P x.msap → AllByRecursion P (names_of xs) → AllByRecursion P (names_of (cons_option o xs))
  all-cons P x o xs h p ps = grind (arith, common_steps)

  all-part : (P : MsapId → Type 0) (xs : List Neighbor) → AllByRecursion P (names_of xs) → AllByRecursion P (names_of (filter_map g xs))
  all-part P [] h = h
  all-part P (x ∷ xs) h = all-cons P x (g x) (filter_map g xs) (same x) h.0 (all-part P xs h.1)

  distinct-cons : (x : Neighbor) (o : Option Neighbor) (xs : List Neighbor) → ((y : Neighbor) → o ≡ Some y → y.msap ≡ x.msap) → AllByRecursion (λ n. same_msap x.msap n ≡ false) (names_of xs) → IsDistinct same_msap (names_of xs) → IsDistinct same_msap (names_of (cons_option o xs))
  distinct-cons x None xs h a d = d
  distinct-cons x (Some y) xs h a d = IsDistinct-cons same_msap y.msap (names_of xs) (subst (λ m. AllByRecursion (λ n. same_msap m n ≡ false) (names_of xs)) (sym (h y refl)) a) d

  pub distinct-part : (xs : List Neighbor) → IsDistinct same_msap (names_of xs) → IsDistinct same_msap (names_of (filter_map g xs))
  distinct-part [] d = d
  distinct-part (x ∷ xs) d =
      distinct-cons x (g x) (filter_map g xs) (same x)
      (all-part (λ n. same_msap x.msap n ≡ false) xs (IsDistinct-head same_msap x.msap (names_of xs) d))
      (distinct-part xs (IsDistinct-tail same_msap x.msap (names_of xs) d))

length-cons : (o : Option Neighbor) (xs : List Neighbor) → length (cons_option o xs) ≤ suc (length xs)
length-cons o xs = grind (arith, common_steps)

pub length-part : (g : Neighbor → Option Neighbor) (xs : List Neighbor) → length (filter_map g xs) ≤ length xs
length-part g [] = omega arith
length-part g (x ∷ xs) = omega (arith, length-cons (g x) (filter_map g xs), length-part g xs)

held-cons : (o : Option Neighbor) (xs : List Neighbor) → ((y : Neighbor) → o ≡ Some y → IsHeld y) → AllByRecursion IsHeld xs → AllByRecursion IsHeld (cons_option o xs)
held-cons o xs h k = grind (arith, common_steps)

pub held-part : (g : Neighbor → Option Neighbor) → ((x y : Neighbor) → IsHeld x → g x ≡ Some y → IsHeld y) → (xs : List Neighbor) → AllByRecursion IsHeld xs → AllByRecursion IsHeld (filter_map g xs)
held-part g h [] k = k
held-part g h (x ∷ xs) k = held-cons (g x) (filter_map g xs) (λ y e. h x y k.0 e) (held-part g h xs k.1)

-- ## `tick`

aged_held : (x y : Neighbor) → IsHeld x → aged x ≡ Some y → IsHeld y
aged_held x y k e = grind (arith, common_steps, cond_some, ltb-true)

aged_named : (x y : Neighbor) → aged x ≡ Some y → y.msap ≡ x.msap
aged_named x y e = sym (ap (λ (n : Neighbor). n.msap) (cond_some (nat_lt 1 x.left) _ y e).1)

held_part : (p : Neighbor → Bool) (xs : List Neighbor) → AllByRecursion IsHeld xs → AllByRecursion IsHeld (filter p xs)
held_part p xs h = recursion_from_All IsHeld (filter p xs) (All-filter p IsHeld xs (All-from_recursion IsHeld xs h))

-- a table stays sound if some of its neighbors are removed and the timer is changed
sound_part : (g : Neighbor → Option Neighbor) → ((x y : Neighbor) → IsHeld x → g x ≡ Some y → IsHeld y) → ((x y : Neighbor) → g x ≡ Some y → y.msap ≡ x.msap) → (table : Contents) (gone : List Neighbor) (left : ℕ) → AllByRecursion IsHeld gone → IsSound table → IsSound (record table { neighbors = filter_map g table.neighbors; gone = gone; too_many_left = left })
sound_part g held named table gone left a h = grind (arith, common_steps, length-part, held-part, distinct-part)

pub sound_ticked : (table : Contents) → IsSound table → IsSound (after_tick table)
sound_ticked table h = sound_part aged aged_held aged_named table (filter expires table.neighbors) (table.too_many_left - 1) (held_part expires table.neighbors h.held) h

pub sound_cleared : (table : Contents) → IsSound table → IsSound (record table { gone = [] })
sound_cleared table h = record { most = h.most; room = h.room; least = h.least; few = h.few; held = h.held; distinct = h.distinct; left = tt }

-- ## `purge` and `forget`

pub sound_purged : (table : Contents) → IsSound table → IsSound (after_purge table)
unfolding IsDistinct
sound_purged table h = record { most = h.most; room = h.room; least = h.least; few = omega arith; held = tt; distinct = tt; left = tt }

kept_part : (p : Neighbor → Bool) (x y : Neighbor) → keep p x ≡ Some y → x ≡ y
kept_part p x y e = (cond_some (p x) x y e).1

pub sound_forgotten : (table : Contents) (name : MsapId) → IsSound table → IsSound (after_forget table name)
sound_forgotten table name h =
    let p : Neighbor → Bool = λ x. not (is_named name x) in
    rw filter_map-keep at (sound_part (keep p) (λ x y k e. subst IsHeld (kept_part p x y e) k) (λ x y e. ap (λ (n : Neighbor). n.msap) (sym (kept_part p x y e))) table [] table.too_many_left tt h)

-- ## `learn`

-- an MSAP identifier that no neighbor has is not among the identifiers of the neighbors
names_none : (name : MsapId) (xs : List Neighbor) → list_any (is_named name) xs ≡ false → list_any (same_msap name) (names_of xs) ≡ false
names_none name [] h = h
names_none name (x ∷ xs) h = let p = or_parts (same_msap name x.msap) (list_any (is_named name) xs) h in or_from (same_msap name x.msap) (list_any (same_msap name) (names_of xs)) p.0 (names_none name xs p.1)

-- a refreshed neighbor keeps its MSAP identifier
refreshed_name : (name : MsapId) (ttl : ℕ) (octets : List ℕ) (x : Neighbor) → (refreshed name ttl octets x).msap ≡ x.msap
refreshed_name name ttl octets x = cond_both (is_named name x) (fresh name ttl octets) x (λ y. y.msap ≡ x.msap) (λ e. same_msap-true name x.msap e) (λ e. refl)

names-refreshed : (name : MsapId) (ttl : ℕ) (octets : List ℕ) (xs : List Neighbor) → names_of (map (refreshed name ttl octets) xs) ≡ names_of xs
names-refreshed name ttl octets [] = refl
names-refreshed name ttl octets (x ∷ xs) = ap (λ n. n ∷ names_of (map (refreshed name ttl octets) xs)) (refreshed_name name ttl octets x) ∙ ap (λ ns. x.msap ∷ ns) (names-refreshed name ttl octets xs)

held-refreshed : (name : MsapId) (ttl : ℕ) (octets : List ℕ) (xs : List Neighbor) → IsHeld (fresh name ttl octets) → AllByRecursion IsHeld xs → AllByRecursion IsHeld (map (refreshed name ttl octets) xs)
held-refreshed name ttl octets [] k h = tt
held-refreshed name ttl octets (x ∷ xs) k h = (cond_both (is_named name x) (fresh name ttl octets) x IsHeld (λ e. k) (λ e. h.0), held-refreshed name ttl octets xs k h.1)

pub sound_new : (table : Contents) (name : MsapId) (ttl : ℕ) (octets : List ℕ) → holds_name table name ≡ false → length table.neighbors < table.limit → IsExtent name ttl octets → IsSound table → IsSound (learned_as New table name ttl octets)
sound_new table name ttl octets none l t h = grind (arith, common_steps, length-append, all-push, map-append, IsDistinct-push, same_msap-laws, names_none)

pub sound_refreshed : (table : Contents) (name : MsapId) (ttl : ℕ) (octets : List ℕ) → IsExtent name ttl octets → IsSound table → IsSound (learned_as Refreshed table name ttl octets)
sound_refreshed table name ttl octets t h = grind (arith, common_steps, length-map, held-refreshed, names-refreshed)

sound_learned_as : (a : Learned) (table : Contents) (name : MsapId) (ttl : ℕ) (octets : List ℕ) → learn_answer table name ≡ a → IsExtent name ttl octets → IsSound table → IsSound (learned_as a table name ttl octets)
sound_learned_as a table name ttl octets e t h = grind (arith, common_steps, by_new, sound_new, ltb-true, sound_refreshed)

pub sound_learned : (table : Contents) (name : MsapId) (ttl : ℕ) (octets : List ℕ) → IsExtent name ttl octets → IsSound table → IsSound (after_learn table name ttl octets)
sound_learned table name ttl octets = sound_learned_as (learn_answer table name) table name ttl octets refl

pub sound_open : (limit : ℕ) → 0 < limit → limit ≤ 128 → IsSound (newly_opened limit)
unfolding IsDistinct
sound_open limit l m = record { most = m; room = omega arith; least = l; few = omega arith; held = tt; distinct = tt; left = tt }

pub sound_limited : (table : Contents) (limit : ℕ) → IsNewLimit table limit → IsSound table → IsSound (after_set_limit table limit)
sound_limited table limit n h = record { most = h.most; room = n.most; least = n.least; few = n.held; held = h.held; distinct = h.distinct; left = tt }

-- ## Each call

pub sound_after : (table : Contents) (call : Call) → IsSound table → IsPossible table call → IsSound (table_after table call)
sound_after table (learn msap ttl octets) h t = sound_learned table msap ttl octets t h
sound_after table (forget msap) h t = sound_forgotten table msap h
sound_after table purge h t = sound_purged table h
sound_after table tick h t = sound_ticked table h
sound_after table (set_limit limit) h t = sound_limited table limit t h
