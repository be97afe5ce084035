-- How the neighbors change if one slot is written or one index is moved.
use Rattle.std.proofs.Common.{◌≡◌, ℕ, suc, ◌+◌, ◌-◌, ◌<◌, ◌≤◌, ◌||◌, true, false, nat_eq, List, [], ◌∷◌, ◌++◌, length, take, drop, set, get_or, length-drop, Option, Some, None, option_map, MatchOption, refl, ap, ◌∙◌, sym, subst, arith, map, length-set, length-append, length-take-le}
use Rattle.std.specs.List.{list_any, remove, slice_get, AllByRecursion}
use Rattle.std.proofs.lemmas.Bool.{cases_Bool, eqb-true, eqb-false}
use Rattle.std.proofs.lemmas.Option.{slice_get-get_or, slice_get-map, slice_get_within}
use Rattle.std.proofs.lemmas.List.{get_or_default, get_or-map, get_or-take, get_or-drop, take_more, length-map, map-append, get_or-set_same, get_or-set_other, get_or_append_left, take-append-le}
use Rattle.lldp_pdu.specs.Msap.{MsapId}
use Rattle.lldp_table.specs.Msap.{same_msap}
use Rattle.lldp_table.specs.Events.{Neighbor}
use Rattle.lldp_table.specs.Contents.{Contents, IsExtent, is_named, holds_name, names_of, IsSound, IsHeld}
use Rattle.lldp_table.specs.Code.Steps.{fresh, refreshed, learned_as, after_forget}
use Rattle.lldp_table.specs.Code.Layout.{neighbor_of, neighbor_at, neighbors_at, octets_at, msap_at, blank, with_next, IsOrder, gone_at, contents_of, IsLaidOut}
use Rattle.lldp_table.specs.Code.Stored.{Stored}
use Rattle.lldp_table.specs.declared.learned.Learned.TheVariants.{New, Refreshed}
use Rattle.lldp_table.specs.Outcomes.{octets_held}
use Rattle.lldp_table.proofs.Outcomes.{found_at}
use Rattle.lldp_table.proofs.Msap.{same_msap-true, same_msap-refl}
use Rattle.lldp_table.proofs.Standing.Sound.{sound_cleared, sound_open, sound_new, sound_refreshed, sound_forgotten, sound_purged}
use Rattle.lldp_table.proofs.Slots.Places.{at_place, all-weaker, all-both, all-take, all-out, others-out, map-agree, map-at_place, not_before, map-remove, take-moved, distinct-take, forgets_place, refreshes_place, IsOrder-forgotten, IsOrder-push, IsOrder-none}
use Rattle.std.proofs.lemmas.Grind.{common_steps}

-- ## Slots

-- After a write, slot s has the neighbor x, and the other slots in use keep their remaining ticks.
pub record IsStored (used : List ℕ) (left : ℕ → ℕ) (s : ℕ) (slot : Stored) (left' : ℕ → ℕ) (x : Neighbor) : Type 0 where
  pub here : neighbor_of slot (left' s) ≡ x
  pub others : AllByRecursion (λ i. nat_eq s i ≡ false → left' i ≡ left i) used

-- a slot with a newly stored frame has the `fresh` neighbor of that frame
pub fresh_in : (slot : Stored) (name : MsapId) (ttl : ℕ) (octets : List ℕ) → slot.octets ≡ octets → slot.ttl ≡ ttl → IsExtent name ttl octets → neighbor_of slot ttl ≡ fresh name ttl octets
fresh_in slot name ttl octets o t e = grind (arith, common_steps)

module _ (slots : List Stored) {used : List ℕ} {left : ℕ → ℕ} {s : ℕ} {slot : Stored} {left' : ℕ → ℕ} {x : Neighbor} (w : IsStored used left s slot left' x) where
  stored-others : AllByRecursion (λ i. nat_eq s i ≡ false → neighbor_at (set slots s slot) left' i ≡ neighbor_at slots left i) used
  stored-others = grind (arith, common_steps, all-weaker, get_or-set_other, eqb-false)

  stored-same : s < length slots → neighbor_at (set slots s slot) left' s ≡ x
  stored-same l = ap (λ (y : Stored). neighbor_of y (left' s)) (get_or-set_same slots s slot blank l) ∙ w.here

-- the MSAP identifiers in slots are those of their neighbors
pub any-msap : (slots : List Stored) (left : ℕ → ℕ) (name : MsapId) (is : List ℕ) → list_any (same_msap name) (map (msap_at slots) is) ≡ list_any (is_named name) (neighbors_at slots left is)
any-msap slots left name [] = refl
any-msap slots left name (i ∷ is) = ap (λ b. same_msap name (msap_at slots i) || b) (any-msap slots left name is)

-- ## Tables

-- a table whose parts are in range and whose contents are sound satisfies `IsLaidOut`
pub laid_out : {capacity : ℕ} {slots : List Stored} {left : ℕ → ℕ} {order : List ℕ} {used limit too_many : ℕ} {table : Contents} → IsOrder (length slots) order → length slots ≤ capacity → used ≤ length slots → used ≤ limit → contents_of capacity slots left order used 0 limit too_many ≡ table → IsSound table → IsLaidOut capacity slots left order used 0 limit too_many
laid_out o w f h e s = record { indices = o; written = w; fits = omega (arith, f); held = h; sound = subst IsSound (sym e) s }

module _ {capacity : ℕ} {slots : List Stored} {left : ℕ → ℕ} {order : List ℕ} {used gone limit too_many : ℕ} (h : IsLaidOut capacity slots left order used gone limit too_many) where
  abbrev held : List Neighbor
  held = neighbors_at slots left (take used order)

  -- the table's contents, but with these neighbors, and none that aged out
  abbrev with_held : List Neighbor → Contents
  with_held xs = record { capacity = capacity; limit = limit; neighbors = xs; gone = []; too_many_left = too_many }

  abbrev shown : Contents
  shown = contents_of capacity slots left order used gone limit too_many

  pub fits : used ≤ length order
  fits = omega (arith, h.fits, h.indices.all)

  pub count : length held ≡ used
  count = length-map (take used order) (neighbor_at slots left) ∙ length-take-le used order fits

  pub has_room : {table : Contents} → shown ≡ table → length table.neighbors < table.limit → used < limit
  has_room is room = omega (arith, ap (λ (t : Contents). t.limit) is, ap (λ (t : Contents). length t.neighbors) is, count, room)

  pub place_used : {table : Contents} → shown ≡ table → (at : ℕ) → at < length table.neighbors → at < used
  place_used is at l = omega (arith, ap (λ (t : Contents). length t.neighbors) is, count, l)

  pub not_held : {table : Contents} → shown ≡ table → (name : MsapId) → holds_name table name ≡ false → list_any (is_named name) held ≡ false
  not_held is name none = ap (λ (t : Contents). holds_name t name) is ∙ none

  -- the neighbor at a place
  pub place : (at : ℕ) (d : Neighbor) → at < used → get_or held at d ≡ neighbor_at slots left (get_or order at 0)
  place at d l = get_or-map (neighbor_at slots left) (take used order) at 0 d (omega (arith, length-take-le used order fits)) ∙ ap (neighbor_at slots left) (get_or-take used order at 0 l)

  pub index_within : (at : ℕ) → at < used → get_or order at 0 < length slots
  index_within at l = at_place (λ i. i < length slots) order at 0 (omega (arith, fits)) h.indices.within

  pub held_at : (at : ℕ) → at < used → IsHeld (neighbor_at slots left (get_or order at 0))
  held_at at l = subst IsHeld (place at (neighbor_of blank 0) l) (at_place IsHeld held at (neighbor_of blank 0) (omega (arith, count)) h.sound.held)

  at_named : (name : MsapId) (at : ℕ) → at < used → same_msap name (msap_at slots (get_or order at 0)) ≡ true → is_named name (get_or held at (neighbor_of blank 0)) ≡ true
  at_named name at l e = ap (is_named name) (place at (neighbor_of blank 0) l) ∙ e

  -- the neighbor at a place, from the slot and the order that were read
  pub entry_at : (at : ℕ) (read : List ℕ) (slot : Stored) → read ≡ order → slot ≡ get_or slots (get_or read at 0) slot → at < used → neighbor_of slot (left (get_or read at 0)) ≡ neighbor_at slots left (get_or order at 0)
  entry_at at read slot r e l = grind (arith, common_steps, get_or_default, index_within)

  pub get_at : (at : ℕ) → at < used → slice_get held at ≡ Some (neighbor_at slots left (get_or order at 0))
  get_at at l = slice_get-get_or held at (neighbor_of blank 0) (omega (arith, count)) ∙ ap Some (place at (neighbor_of blank 0) l)

  -- ### The neighbors that aged out

  pub fits_gone : used + gone ≤ length order
  fits_gone = omega (arith, h.fits, h.indices.all)

  -- the index of the slot at this place among those of the neighbors that aged out
  abbrev gone_index : ℕ → ℕ
  gone_index i = get_or (drop used order) i 0

  gone_length : length (take gone (drop used order)) ≡ gone
  gone_length = length-take-le gone (drop used order) (omega (arith, length-drop used order, fits_gone))

  pub gone_count : length (gone_at slots order used gone) ≡ gone
  gone_count = length-map (take gone (drop used order)) (neighbor_at slots (λ i. 1)) ∙ gone_length

  pub gone_place : {table : Contents} → shown ≡ table → (i : ℕ) → i < length table.gone → i < gone
  gone_place is i l = omega (arith, ap (λ (t : Contents). length t.gone) is, gone_count, l)

  gone_there : (i : ℕ) (d : Neighbor) → i < gone → get_or (gone_at slots order used gone) i d ≡ neighbor_at slots (λ i. 1) (gone_index i)
  gone_there i d l =
      get_or-map (neighbor_at slots (λ i. 1)) (take gone (drop used order)) i 0 d (omega (arith, gone_length))
      ∙ ap (neighbor_at slots (λ i. 1)) (get_or-take gone (drop used order) i 0 l)

  pub gone_within : (i : ℕ) → i < gone → gone_index i < length slots
  gone_within i l = subst (λ n. n < length slots) (sym (get_or-drop used order i 0)) (at_place (λ j. j < length slots) order (used + i) 0 (omega (arith, fits_gone)) h.indices.within)

  pub gone_held : (i : ℕ) → i < gone → IsHeld (neighbor_at slots (λ i. 1) (gone_index i))
  gone_held i l = subst IsHeld (gone_there i (neighbor_of blank 0) l) (at_place IsHeld (gone_at slots order used gone) i (neighbor_of blank 0) (omega (arith, gone_count)) h.sound.left)

  pub gone_get : (i : ℕ) → i < gone → slice_get (gone_at slots order used gone) i ≡ Some (neighbor_at slots (λ i. 1) (gone_index i))
  gone_get i l = slice_get-get_or (gone_at slots order used gone) i (neighbor_of blank 0) (omega (arith, gone_count)) ∙ ap Some (gone_there i (neighbor_of blank 0) l)

  -- the octets held for the MSAP identifier at a place are those in its slot
  pub octets_there : {table : Contents} → shown ≡ table → (name : MsapId) (at : ℕ) → at < used → same_msap name (msap_at slots (get_or order at 0)) ≡ true → octets_held table name ≡ Some (octets_at slots (get_or order at 0))
  octets_there is name at l e =
      ap (λ (t : Contents). octets_held t name) (sym is)
      ∙ ap (option_map (λ (x : Neighbor). x.octets)) (found_at name held at (neighbor_of blank 0) (omega (arith, count)) (at_named name at l e) h.sound.distinct ∙ ap Some (place at (neighbor_of blank 0) l))

  -- ### The place of an MSAP identifier

  abbrev msap_there : ℕ → MsapId
  msap_there at = msap_at slots (get_or order at 0)

  name_at : (at : ℕ) → at < used → slice_get (names_of held) at ≡ Some (msap_there at)
  name_at at l = slice_get-map (λ (x : Neighbor). x.msap) held at ∙ ap (option_map (λ (x : Neighbor). x.msap)) (get_at at l)

  -- the result of `place_of` for the slots in use
  pub place_of_name : (name : MsapId) (found : Option ℕ) → MatchOption found (list_any (same_msap name) (map (msap_at slots) (take used order)) ≡ false) (λ at. (at < length (take used order)) × (same_msap name (msap_at slots (get_or (take used order) at 0)) ≡ true))
      → {table : Contents} → shown ≡ table → MatchOption found (holds_name table name ≡ false) (λ at. slice_get (names_of table.neighbors) at ≡ Some name)
  place_of_name name None e is = ap (λ (t : Contents). holds_name t name) (sym is) ∙ sym (any-msap slots left name (take used order)) ∙ e
  place_of_name name (Some at) f is =
      let l : at < used = omega (arith, f.0, length-take-le used order fits) in
      ap (λ (t : Contents). slice_get (names_of t.neighbors) at) (sym is) ∙ name_at at l ∙ ap Some (sym (same_msap-true name _ (ap (λ i. same_msap name (msap_at slots i)) (sym (get_or-take used order at 0 l)) ∙ f.1)))

  -- a place with this MSAP identifier is in use, and its slot has the identifier
  pub named_there : {table : Contents} → shown ≡ table → (name : MsapId) (at : ℕ) → slice_get (names_of table.neighbors) at ≡ Some name → (at < used) × (same_msap name (msap_there at) ≡ true)
  named_there is name at there =
      let named : slice_get (names_of held) at ≡ Some name = ap (λ (t : Contents). slice_get (names_of t.neighbors) at) is ∙ there in
      let l : at < used = omega (arith, slice_get_within (names_of held) at name named, length-map held (λ (x : Neighbor). x.msap), count) in
      let same : msap_there at ≡ name = cc (name_at at l, named) in
      (l, ap (same_msap name) same ∙ same_msap-refl name)

  module _ (name : MsapId) (ttl : ℕ) (octets : List ℕ) (slot : Stored) (left' : ℕ → ℕ) where
    module _ (at : ℕ) (l : at < used) (e : same_msap name (msap_at slots (get_or order at 0)) ≡ true) (w : IsStored (take used order) left (get_or order at 0) slot left' (fresh name ttl octets)) where
      abbrev s : ℕ
      s = get_or order at 0

      stored : neighbors_at (set slots s slot) left' (take used order) ≡ set held at (fresh name ttl octets)
      stored =
          map-at_place (neighbor_at slots left) (neighbor_at (set slots s slot) left') s (take used order) (stored-others slots w)
          at (omega (arith, length-take-le used order fits)) (get_or-take used order at 0 l) (distinct-take used order h.indices.distinct)
          ∙ ap (set held at) (stored-same slots w (index_within at l))

      refreshed_all : map (refreshed name ttl octets) held ≡ set held at (fresh name ttl octets)
      refreshed_all = refreshes_place name ttl octets held at (neighbor_of blank 0) (omega (arith, count)) (at_named name at l e) h.sound.distinct

      pub after_refreshed : contents_of capacity (set slots s slot) left' order used 0 limit too_many ≡ learned_as Refreshed shown name ttl octets
      after_refreshed = ap with_held (stored ∙ sym refreshed_all)

      pub laid_refreshed : IsExtent name ttl octets → IsLaidOut capacity (set slots s slot) left' order used 0 limit too_many
      laid_refreshed t =
          let same = length-set slots s slot in
          laid_out (subst (λ n. IsOrder n order) (sym same) h.indices)
          (omega (arith, same, h.written)) (omega (arith, same, h.fits)) h.held after_refreshed (sound_refreshed shown name ttl octets t h.sound)

    -- ### `learn` stores a new MSAP identifier in a free slot

    module _ (none : list_any (is_named name) held ≡ false) (l : used < limit) (free : used < length slots) where
      pub short : used < length order
      short = omega (arith, free, h.indices.all)

      module _ (w : IsStored (take used order) left (get_or order used 0) slot left' (fresh name ttl octets)) where
        abbrev next : ℕ
        next = get_or order used 0

        others : neighbors_at (set slots next slot) left' (take used order) ≡ held
        others = map-agree (neighbor_at slots left) (neighbor_at (set slots next slot) left') (take used order)
            (all-both (λ i. nat_eq next i ≡ false) (λ i. nat_eq next i ≡ false → neighbor_at (set slots next slot) left' i ≡ neighbor_at slots left i) (λ i. neighbor_at (set slots next slot) left' i ≡ neighbor_at slots left i)
            (λ i d q. q d) (take used order) (not_before order used short h.indices.distinct) (stored-others slots w))

        pushed : neighbors_at (set slots next slot) left' (take (used + 1) order) ≡ held ++ fresh name ttl octets ∷ []
        pushed = grind (arith, common_steps, take_more, short, map-append, others, stored-same, at_place, free)

        pub after_new : contents_of capacity (set slots next slot) left' order (used + 1) 0 limit too_many ≡ learned_as New shown name ttl octets
        after_new = ap with_held pushed

        pub laid_new : IsExtent name ttl octets → IsLaidOut capacity (set slots next slot) left' order (used + 1) 0 limit too_many
        laid_new t =
            let same = length-set slots next slot in
            laid_out (subst (λ n. IsOrder n order) (sym same) h.indices)
            (omega (arith, same, h.written)) (omega (arith, same, free)) (omega arith) after_new (sound_new shown name ttl octets none (omega (arith, count, l)) t h.sound)

  -- ### `forget`

  module _ (name : MsapId) (at x : ℕ) (left' : ℕ → ℕ) (l : at < used) (e : same_msap name (msap_at slots (get_or order at 0)) ≡ true) (o : AllByRecursion (λ i. nat_eq (get_or order at 0) i ≡ false → left' i ≡ left i) (take used order)) where
    pub moved_out : take (used - 1) (remove order at ++ x ∷ []) ≡ remove (take used order) at
    moved_out =
        let one : suc (used - 1) ≡ used = omega arith in
        take-moved order x at (used - 1) (omega arith) (omega (arith, fits)) ∙ ap (λ n. remove (take n order) at) one

    others_left : neighbors_at slots left' (remove (take used order) at) ≡ neighbors_at slots left (remove (take used order) at)
    others_left =
        let there : at < length (take used order) = omega (arith, length-take-le used order fits) in
        let s : ℕ = get_or order at 0 in
        map-agree (neighbor_at slots left) (neighbor_at slots left') (remove (take used order) at)
        (all-both (λ i. nat_eq s i ≡ false) (λ i. nat_eq s i ≡ false → left' i ≡ left i) (λ i. neighbor_at slots left' i ≡ neighbor_at slots left i) (λ i d q. ap (neighbor_of (get_or slots i blank)) (q d)) (remove (take used order) at)
        (subst (λ n. AllByRecursion (λ i. nat_eq n i ≡ false) (remove (take used order) at)) (get_or-take used order at 0 l) (others-out (take used order) at there (distinct-take used order h.indices.distinct)))
        (all-out (λ i. nat_eq s i ≡ false → left' i ≡ left i) (take used order) at there o))

    pub after_forgotten : contents_of capacity slots left' (remove order at ++ x ∷ []) (used - 1) 0 limit too_many ≡ after_forget shown name
    after_forgotten =
        ap with_held (ap (neighbors_at slots left') moved_out ∙ others_left ∙ map-remove (neighbor_at slots left) (take used order) at
        ∙ sym (forgets_place name held at (neighbor_of blank 0) (omega (arith, count)) (at_named name at l e) h.sound.distinct))

    pub laid_forgotten : x ≡ get_or order at x → IsLaidOut capacity slots left' (remove order at ++ x ∷ []) (used - 1) 0 limit too_many
    laid_forgotten i =
        laid_out (IsOrder-forgotten (length slots) order at x (omega (arith, fits)) i h.indices) h.written (omega (arith, h.fits)) (omega (arith, h.held)) after_forgotten (sound_forgotten shown name h.sound)

  -- ### `purge`

  pub laid_purged : (left' : ℕ → ℕ) → IsLaidOut capacity slots left' order 0 0 limit 0
  laid_purged left' = laid_out h.indices h.written (omega arith) (omega arith) refl (sound_purged shown h.sound)

  -- ### One more slot

  -- these slots and this order have a free slot and the same contents as before
  pub record HasFree (slots' : List Stored) (order' : List ℕ) : Type 0 where
    pub laid : IsLaidOut capacity slots' left order' used 0 limit too_many
    pub same : contents_of capacity slots' left order' used 0 limit too_many ≡ with_held held
    pub free : used < length slots'
    pub order_same : take used order' ≡ take used order

  full : used < limit → nat_eq (length slots) used ≡ true → HasFree (slots ++ blank ∷ []) (order ++ used ∷ [])
  full l e =
      let all : length slots ≡ used = eqb-true (length slots) used e in
      let more : length (slots ++ blank ∷ []) ≡ length slots + 1 = length-append slots (blank ∷ []) in
      let front : take used (order ++ used ∷ []) ≡ take used order = take-append-le used order (used ∷ []) fits in
      let same : contents_of capacity (slots ++ blank ∷ []) left (order ++ used ∷ []) used 0 limit too_many ≡ with_held held =
      ap with_held (ap (neighbors_at (slots ++ blank ∷ []) left) front
      ∙ map-agree (neighbor_at slots left) (neighbor_at (slots ++ blank ∷ []) left) (take used order)
      (all-weaker (λ i. i < length slots) (λ i. neighbor_at (slots ++ blank ∷ []) left i ≡ neighbor_at slots left i) (λ i w. ap (λ (y : Stored). neighbor_of y (left i)) (get_or_append_left slots (blank ∷ []) blank i w)) (take used order)
      (all-take (λ i. i < length slots) used order h.indices.within))) in
      let indices : IsOrder (length slots + 1) (order ++ used ∷ []) = subst (λ n. IsOrder (length slots + 1) (order ++ n ∷ [])) all (IsOrder-push (length slots) order h.indices) in
      record {
        laid = laid_out (subst (λ n. IsOrder n (order ++ used ∷ [])) (sym more) indices)
            (omega (arith, more, all, l, h.sound.room)) (omega (arith, more, all)) h.held same (sound_cleared shown h.sound);
        same = same;
        free = omega (arith, more, all);
        order_same = front;
      }

  pub has_free : used < limit → HasFree (with_next used blank slots) (with_next used used order)
  has_free l = grind (arith, common_steps, cases_Bool, full, eqb-false)

-- ## `open`

pub laid_open : (left : ℕ → ℕ) (limit : ℕ) → 0 < limit → limit ≤ 128 → IsLaidOut limit [] left [] 0 0 limit 0
laid_open left limit l m = laid_out IsOrder-none (omega arith) (omega arith) (omega arith) refl (sound_open limit l m)
