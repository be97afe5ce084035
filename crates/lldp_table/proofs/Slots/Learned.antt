-- The effects of `learn` and `forget` on a table: writing a slot, and changing the queue.
use Rattle.std.proofs.Common.{◌≡◌, ℕ, ◌+◌, ◌-◌, ◌<◌, ◌≤◌, true, false, nat_eq, List, [], ◌∷◌, ◌++◌, length, take, drop, set, get_or, refl, ap, ◌∙◌, sym, subst, arith, length-take-le}
use Rattle.std.specs.Prelude.{slice_index}
use Rattle.std.specs.List.{list_any, remove, IsDistinct}
use Rattle.std.specs.List.Sorted.{IsPermutation}
use Rattle.std.proofs.lemmas.List.{get_or_default, get_or-take, get_or-drop, take_more}
use Rattle.std.proofs.lemmas.List.Sorted.{IsPermutation-sym, IsPermutation-append_comm, length_permutation}
use Rattle.lldp_pdu.specs.Msap.{MsapId}
use Rattle.lldp_table.specs.Msap.{same_msap}
use Rattle.lldp_table.specs.Contents.{Contents, IsExtent, is_named, least_left}
use Rattle.lldp_table.specs.Code.Steps.{fresh, learned_as, after_forget}
use Rattle.lldp_table.specs.Code.Layout.{neighbor_of, neighbor_at, neighbors_at, msap_at, blank, with_next, contents_of, AreEntries, IsTable}
use Rattle.lldp_table.specs.Code.Queue.{Due, holds, ticks_left, first_gap, enter, leave, IsQueued, IsTimed}
use Rattle.lldp_pdu.specs.Lldpdu.{msap_of}
use Rattle.lldp_table.specs.Code.Stored.{Stored, tag_of}
use Rattle.lldp_table.specs.Code.Tags.{IsTagged}
use Rattle.lldp_table.proofs.Msap.{same_msap-true}
use Rattle.lldp_table.proofs.Slots.Search.{tagged_again, tagged_next}
use Rattle.lldp_table.specs.declared.learned.Learned.TheVariants.{New, Refreshed}
use Rattle.lldp_table.proofs.Slots.Places.{at_place, all-weaker, all-take, map-agree, one-out, not_before, none-with, distinct-take}
use Rattle.lldp_table.proofs.Ageing.Steps.{running-enter, running-leave}
use Rattle.lldp_table.proofs.Ageing.Timed.{all_queued, queued_enter, holds_it, queued_leave, enter_here, enter_others, out_of, leave_others, again_others}
use Rattle.lldp_table.proofs.Ageing.Soonest.{first_soonest}
use Rattle.lldp_table.proofs.Slots.Layout.{IsStored, fresh_in, fits, index_within, gone_within, entry_at, HasFree, has_free, after_refreshed, laid_refreshed, after_new, laid_new, moved_out, after_forgotten, laid_forgotten, laid_purged, laid_open}
use Rattle.std.proofs.lemmas.Grind.{common_steps}

timed_none : IsTimed [] []
unfolding IsDistinct
timed_none = record { queued = record { same = λ i. refl; count = refl; distinct = tt }; running = refl }

module _ {capacity : ℕ} {slots : List Stored} {queue : List Due} {order : List ℕ} {used gone limit too_many : ℕ} (h : IsTable capacity slots queue order used gone limit too_many) where
  pub few_queued : length queue ≡ used
  few_queued = h.timed.queued.count ∙ length-take-le used order (fits h.laid)

  -- ## A slot in use

  module _ (at : ℕ) (l : at < used) where
    abbrev s : ℕ
    s = get_or order at 0

    abbrev in_use : List ℕ
    in_use = take used order

    abbrev others : List ℕ
    others = remove in_use at

    there : at < length in_use
    there = omega (arith, l, length-take-le used order (fits h.laid))

    apart : IsDistinct nat_eq in_use
    apart = distinct-take used order h.laid.indices.distinct

    parted : IsPermutation in_use (s ∷ others)
    parted = subst (λ i. IsPermutation in_use (i ∷ others)) (get_or-take used order at 0 l) (one-out in_use at there)

    pub is_in : holds s queue ≡ true
    is_in = holds_it queue in_use h.timed.queued s apart others parted

    -- after slot s was removed, the queue has the other slots in use
    left_queued : IsQueued (leave s queue) others
    left_queued = queued_leave queue in_use h.timed.queued s apart others parted

    out : list_any (nat_eq s) others ≡ false
    out = out_of queue in_use h.timed.queued s apart others parted

    pub is_out : holds s (leave s queue) ≡ false
    is_out = left_queued.same s ∙ out

    pub room_again : length (leave s queue) < 128
    room_again = omega (arith, left_queued.count, length_permutation in_use (s ∷ others) parted, few_queued, h.timed.queued.count, h.laid.held, h.laid.sound.room, h.laid.sound.most)

    -- ## A refresh

    module _ {name : MsapId} {ttl : ℕ} {octets : List ℕ} {slot : Stored} (o : slot.octets ≡ octets) (n : slot.ttl ≡ ttl) (t : IsExtent name ttl octets) (e : same_msap name (msap_at slots s) ≡ true) where
      stored_again : IsStored in_use (ticks_left queue) s slot (ticks_left (enter s ttl (leave s queue))) (fresh name ttl octets)
      stored_again = record {
        here = ap (neighbor_of slot) (enter_here (leave s queue) others left_queued s ttl out) ∙ fresh_in slot name ttl octets o n t;
        others = again_others queue in_use h.timed.queued s apart others parted ttl;
      }

      timed_again : IsTimed (enter s ttl (leave s queue)) in_use
      timed_again = record {
        queued = queued_enter (leave s queue) others left_queued s ttl out in_use (IsPermutation-sym in_use (s ∷ others) parted);
        running = running-enter s ttl (leave s queue) t.lives (running-leave s queue h.timed.running);
      }

      -- `read` is the order that was read, and `left` is the TTL
      module _ {read : List ℕ} {left : ℕ} {queue' : List Due} (r : read ≡ order) (k : left ≡ ttl) (q : queue' ≡ enter (get_or read at 0) left (leave (get_or read at 0) queue)) where
        pub refreshed_after : contents_of capacity (set slots (get_or read at 0) slot) (ticks_left queue') order used 0 limit too_many ≡ learned_as Refreshed (contents_of capacity slots (ticks_left queue) order used gone limit too_many) name ttl octets
        refreshed_after = rw (q, r, k) (after_refreshed h.laid name ttl octets slot _ at l e stored_again)

        pub tagged_refreshed : {tags : List ℕ} → IsTagged tags slots → IsTagged tags (set slots (get_or read at 0) slot)
        tagged_refreshed {tags} g =
            let same : msap_of slot.octets ≡ msap_at slots s = ap msap_of o ∙ t.msap_is ∙ same_msap-true name (msap_at slots s) e in
            rw r (tagged_again tags slots s slot g (index_within h.laid at l) same)

        pub refreshed_table : IsTable capacity (set slots (get_or read at 0) slot) queue' order used 0 limit too_many
        refreshed_table = rw (q, r, k) (record { laid = laid_refreshed h.laid name ttl octets slot _ at l e stored_again t; timed = timed_again })

    -- ## Forgetting an MSAP identifier

    module _ (name : MsapId) {x : ℕ} (e : same_msap name (msap_at slots s) ≡ true) (i : x ≡ get_or order at x) where
      is_s : x ≡ s
      is_s = i ∙ get_or_default order at x 0 (omega (arith, l, fits h.laid))

      module _ {queue' : List Due} (q : queue' ≡ leave x queue) where
        q_s : queue' ≡ leave s queue
        q_s = q ∙ ap (λ j. leave j queue) is_s

        pub forgotten_after : contents_of capacity slots (ticks_left queue') (remove order at ++ x ∷ []) (used - 1) 0 limit too_many ≡ after_forget (contents_of capacity slots (ticks_left queue) order used gone limit too_many) name
        forgotten_after = rw q_s (after_forgotten h.laid name at x _ l e (leave_others queue in_use h.timed.queued s apart others parted))

        pub forgotten_table : IsTable capacity slots queue' (remove order at ++ x ∷ []) (used - 1) 0 limit too_many
        forgotten_table = rw q_s (record {
          laid = laid_forgotten h.laid name at x _ l e (leave_others queue in_use h.timed.queued s apart others parted) i;
          timed = record {
            queued = subst (IsQueued (leave s queue)) (sym (moved_out h.laid name at x (ticks_left (leave s queue)) l e (leave_others queue in_use h.timed.queued s apart others parted))) left_queued;
            running = running-leave s queue h.timed.running;
          };
        })

  -- ## A new MSAP identifier

  -- `slots'` and `order'` are the slots and the order with a free slot
  module _ (l : used < limit) {slots' : List Stored} {order' : List ℕ} (ws : slots' ≡ with_next used blank slots) (wo : order' ≡ with_next used used order) where
    abbrev Free : Type 0
    Free = HasFree h.laid slots' order'

    free : Free
    free = rw (ws, wo) (has_free h.laid l)

    abbrev next : ℕ
    next = get_or order' used 0

    in_line : used < length order'
    in_line = let f = free in omega (arith, f.free, f.laid.indices.all)

    not_used : list_any (nat_eq next) (take used order) ≡ false
    not_used = grind (arith, common_steps, free, none-with, not_before, in_line)

    -- `read` is the order that was read
    pub next_queued : {read : List ℕ} → read ≡ order' → holds (get_or read used 0) queue ≡ false
    next_queued r = rw r (h.timed.queued.same next ∙ not_used)

    module _ {name : MsapId} {ttl : ℕ} {octets : List ℕ} {slot : Stored} (o : slot.octets ≡ octets) (n : slot.ttl ≡ ttl) (t : IsExtent name ttl octets) (none : list_any (is_named name) (neighbors_at slots (ticks_left queue) (take used order)) ≡ false) where
      stored_new : IsStored (take used order') (ticks_left queue) next slot (ticks_left (enter next ttl queue)) (fresh name ttl octets)
      stored_new = grind (arith, common_steps, free, enter_here, not_used, fresh_in, enter_others)

      timed_new : IsTimed (enter next ttl queue) (take (used + 1) order')
      timed_new =
          let f = free in
          record {
            queued = queued_enter queue (take used order) h.timed.queued next ttl not_used (take (used + 1) order')
                (subst (IsPermutation (next ∷ take used order)) (ap (λ is. is ++ next ∷ []) (sym f.order_same) ∙ sym (take_more order' used 0 in_line)) (IsPermutation-append_comm (next ∷ []) (take used order)));
            running = running-enter next ttl queue t.lives h.timed.running;
          }

      none_there : list_any (is_named name) (neighbors_at slots' (ticks_left queue) (take used order')) ≡ false
      none_there = let f = free in ap (λ (table : Contents). list_any (is_named name) table.neighbors) f.same ∙ none

      module _ {read : List ℕ} {left : ℕ} {queue' : List Due} (r : read ≡ order') (k : left ≡ ttl) (q : queue' ≡ enter (get_or read used 0) left queue) where
        pub new_after : contents_of capacity (set slots' (get_or read used 0) slot) (ticks_left queue') order' (used + 1) 0 limit too_many ≡ learned_as New (contents_of capacity slots (ticks_left queue) order used gone limit too_many) name ttl octets
        new_after = let f = free in rw (q, r, k) (after_new f.laid name ttl octets slot _ none_there l f.free stored_new ∙ ap (λ table. learned_as New table name ttl octets) f.same)

        pub new_table : IsTable capacity (set slots' (get_or read used 0) slot) queue' order' (used + 1) 0 limit too_many
        new_table =
            let f = free in
            rw (q, r, k) (record { laid = laid_new f.laid name ttl octets slot _ none_there l f.free stored_new t; timed = timed_new })

        -- the tag of the new neighbor is set
        pub tagged_new : {tags tags' : List ℕ} {tag : ℕ} → IsTagged tags slots → tags' ≡ set tags (get_or read used 0) tag → tag ≡ tag_of (msap_of octets) → IsTagged tags' (set slots' (get_or read used 0) slot)
        tagged_new {tags} {tags'} {tag} g w m =
            let f = free in
            let within : next < length slots' = at_place (λ i. i < length slots') order' used 0 in_line f.laid.indices.within in
            let few : length slots' ≤ 128 = omega (arith, f.laid.written, f.laid.sound.room, f.laid.sound.most) in
            let there = tagged_next tags slots order used tag slot g h.laid.indices.all in
            rw (w, r, ws, wo) (there (rw (ws, wo) at within) (rw ws at few) (m ∙ ap (λ os. tag_of (msap_of os)) (sym o)))

  -- ## Reading the neighbors

  -- `times` has the remaining ticks of each slot in the queue
  module _ (times : List ℕ) (told : (i : ℕ) → holds i queue ≡ true → get_or times i 0 ≡ ticks_left queue i) where
    pub entries_shown : neighbors_at slots (slice_index times) (take used order) ≡ neighbors_at slots (ticks_left queue) (take used order)
    entries_shown =
        map-agree (neighbor_at slots (ticks_left queue)) (neighbor_at slots (slice_index times)) (take used order)
        (all-weaker (λ i. holds i queue ≡ true) (λ i. neighbor_at slots (slice_index times) i ≡ neighbor_at slots (ticks_left queue) i) (λ i w. ap (neighbor_of (get_or slots i blank)) (told i w)) (take used order) (all_queued queue (take used order) h.timed.queued))

    pub are_entries : AreEntries slots (slice_index times) (take used order)
    are_entries = grind (arith, common_steps, all-take, all-weaker, entries_shown)

  pub entry_shown : (at : ℕ) → at < used → (read : List ℕ) (slot : Stored) → read ≡ order → slot ≡ get_or slots (get_or read at 0) slot → neighbor_of slot (ticks_left queue (get_or read at 0)) ≡ neighbor_at slots (ticks_left queue) (get_or order at 0)
  entry_shown at l read slot r e = entry_at h.laid at read slot r e l

  -- the first slot of the queue has the fewest ticks left
  pub soonest_shown : first_gap queue ≡ least_left (neighbors_at slots (ticks_left queue) (take used order))
  soonest_shown = first_soonest slots queue (take used order) h.timed.queued

  -- `read` is the order and `slot` the slot that were read for place i of those that aged out
  pub gone_shown : (i : ℕ) → i < gone → (read : List ℕ) (slot : Stored) → read ≡ order → slot ≡ get_or slots (get_or read (used + i) 0) slot → neighbor_of slot 1 ≡ neighbor_at slots (λ i. 1) (get_or (drop used order) i 0)
  gone_shown i l read slot r e =
      let here : get_or read (used + i) 0 ≡ get_or (drop used order) i 0 = ap (λ is. get_or is (used + i) 0) r ∙ sym (get_or-drop used order i 0) in
      let there : get_or slots (get_or read (used + i) 0) slot ≡ get_or slots (get_or (drop used order) i 0) blank = ap (λ n. get_or slots n slot) here ∙ get_or_default slots (get_or (drop used order) i 0) slot blank (gone_within h.laid i l) in
      ap (λ (y : Stored). neighbor_of y 1) (e ∙ there)

  -- ## A purge

  pub purged_table : (queue' : List Due) (used' gone' limit' too_many' : ℕ) → queue' ≡ [] → used' ≡ 0 → gone' ≡ 0 → limit' ≡ limit → too_many' ≡ 0 → IsTable capacity slots queue' order used' gone' limit' too_many'
  purged_table queue' used' gone' limit' too_many' q u g l t = rw (q, u, g, l, t) (record { laid = laid_purged h.laid (ticks_left []); timed = timed_none })

-- ## A table that was just opened

pub open_table : (capacity : ℕ) (slots : List Stored) (queue : List Due) (order : List ℕ) (limit : ℕ) → capacity ≡ limit → slots ≡ [] → queue ≡ [] → order ≡ [] → 0 < limit → limit ≤ 128 → IsTable capacity slots queue order 0 0 limit 0
open_table capacity slots queue order limit c s q o l m = rw (c, s, q, o) (record { laid = laid_open (ticks_left []) limit l m; timed = timed_none })
