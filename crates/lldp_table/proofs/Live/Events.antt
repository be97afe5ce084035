-- The effect of one more event on the live neighbors.
use Rattle.std.proofs.Common.{◌≡◌, ℕ, suc, ◌-◌, ◌<◌, Bool, true, false, not, ◌&&◌, ◌||◌, cond, ◌⊎◌, List, [], ◌∷◌, ◌++◌, Option, Some, None, refl, inl, inr, ap, ◌∙◌, sym, arith, map, is_some, is_none, nat_lt, max}
use Rattle.std.specs.List.{find, filter, filter_map, cons_option, list_any, AllByRecursion}
use Rattle.std.specs.Option.{option_and_then, option_map}
use Rattle.std.proofs.lemmas.Bool.{cases_Bool, cond-true, cond-false, false≢true, lt-ltb, or_right, or_left, and_right, false_from_ne_true}
use Rattle.std.proofs.lemmas.Option.{option_and_then_some, cond_some}
use Rattle.std.proofs.lemmas.Bool.Decides.{nat_tests}
use Rattle.std.proofs.lemmas.List.Elements.{filter_map-append}
use Rattle.std.proofs.lemmas.List.Folds.{list_any-append}
use Rattle.std.proofs.lemmas.Map.Views.{any-filter_same}
use Rattle.lldp_pdu.specs.Msap.{MsapId}
use Rattle.lldp_table.specs.Msap.{same_msap}
use Rattle.lldp_table.proofs.Msap.{same_msap-refl, same_msap-true, same_msap-sym}
use Rattle.lldp_table.specs.Events.{TableEvent, learned, forgot, purged, ticked, limit_set, Neighbor, live, live_after, ticks, since, decides_on, arrivals, neighbors, gone, is_tick, is_stored, is_purge, most_left, too_many_left}
use Rattle.lldp_table.specs.Contents.{is_named}
use Rattle.lldp_table.specs.Code.Steps.{aged, expires, fresh, refreshed}
use Rattle.lldp_table.specs.declared.learned.Learned.{Learned}
use Rattle.lldp_table.specs.declared.learned.Learned.TheVariants.{New, Refreshed, Dropped}
use Rattle.std.proofs.lemmas.Grind.{common_steps}

-- ## One MSAP identifier

after-more : (n : ℕ) (last : Option TableEvent) → option_and_then (live_after (suc n)) last ≡ option_and_then aged (option_and_then (live_after n) last)
after-more n last = grind (arith, common_steps, nat_tests)

-- a tick ages the live neighbor with this MSAP identifier
pub live-ticked : (name : MsapId) (past : List TableEvent) → live name (ticked ∷ past) ≡ option_and_then aged (live name past)
unfolding live
live-ticked name past = after-more (ticks (since (decides_on name) past)) (find (decides_on name) past)

settled : (b : Bool) (event : TableEvent) (rest : List TableEvent) (last : Option TableEvent) → is_tick event ≡ false → option_and_then (live_after (ticks (cond b [] (event ∷ rest)))) (cond b (Some event) last) ≡ cond b (live_after 0 event) (option_and_then (live_after (ticks rest)) last)
settled b event rest last h = grind (arith, common_steps)

-- any other event either determines the neighbor with this MSAP identifier or leaves it unchanged
pub live-other : (name : MsapId) (event : TableEvent) (past : List TableEvent) → is_tick event ≡ false → live name (event ∷ past) ≡ cond (decides_on name event) (live_after 0 event) (live name past)
unfolding live
live-other name event past h = settled (decides_on name event) event (since (decides_on name) past) (find (decides_on name) past) h

find_passes : (test : TableEvent → Bool) (events : List TableEvent) (event : TableEvent) → find test events ≡ Some event → test event ≡ true
find_passes test [] event h = cc
find_passes test (e ∷ past) event h = elim (cases_Bool (test e)) [ inl t ↦ grind arith | inr f ↦ find_passes test past event (grind arith) ]

-- `live` returns a neighbor that has the requested MSAP identifier
pub live-named : (name : MsapId) (past : List TableEvent) (x : Neighbor) → live name past ≡ Some x → x.msap ≡ name
unfolding live
live-named name past x h = grind (arith, common_steps, option_and_then_some, cond_some, same_msap-true, find_passes)

-- ## Lists of MSAP identifiers

cons_and_then : (g : Neighbor → Option Neighbor) (o : Option Neighbor) (rest before : List Neighbor) → rest ≡ filter_map g before → cons_option (option_and_then g o) rest ≡ filter_map g (cons_option o before)
cons_and_then g o rest before h = grind (arith, common_steps)

cons_map : (g : Neighbor → Neighbor) (o : Option Neighbor) (rest before : List Neighbor) → rest ≡ map g before → cons_option (option_map g o) rest ≡ map g (cons_option o before)
cons_map g o rest before h = grind (arith, common_steps)

module _ (f : MsapId → Option Neighbor) where
  filter_map-agree : (g : MsapId → Option Neighbor) → ((name : MsapId) → f name ≡ g name) → (names : List MsapId) → filter_map f names ≡ filter_map g names
  filter_map-agree g h [] = refl
  filter_map-agree g h (name ∷ names) = ap (λ o. cons_option o (filter_map f names)) (h name) ∙ ap (cons_option (g name)) (filter_map-agree g h names)

  filter_map-and_then : (g : Neighbor → Option Neighbor) (names : List MsapId) → filter_map (λ name. option_and_then g (f name)) names ≡ filter_map g (filter_map f names)
  filter_map-and_then g [] = refl
  filter_map-and_then g (name ∷ names) = cons_and_then g (f name) _ _ (filter_map-and_then g names)

  filter_map-map : (g : Neighbor → Neighbor) (names : List MsapId) → filter_map (λ name. option_map g (f name)) names ≡ map g (filter_map f names)
  filter_map-map g [] = refl
  filter_map-map g (name ∷ names) = cons_map g (f name) _ _ (filter_map-map g names)

-- the neighbor, if it passes the test
abbrev pub keep : (Neighbor → Bool) → Neighbor → Option Neighbor
keep p x = cond (p x) (Some x) None

cons_cond : (b : Bool) (x : Neighbor) (xs : List Neighbor) → cons_option (cond b (Some x) None) xs ≡ cond b (x ∷ xs) xs
cons_cond b x xs = grind (arith, common_steps)

pub filter_map-keep : (p : Neighbor → Bool) (xs : List Neighbor) → filter_map (keep p) xs ≡ filter p xs
filter_map-keep p [] = refl
filter_map-keep p (x ∷ xs) = ap (cons_option (keep p x)) (filter_map-keep p xs) ∙ cons_cond (p x) x (filter p xs)

-- each listed neighbor is the live one with its MSAP identifier
module _ (f : MsapId → Option Neighbor) (named : (name : MsapId) (x : Neighbor) → f name ≡ Some x → x.msap ≡ name) where
  each-cons : (name : MsapId) (o : Option Neighbor) (xs : List Neighbor) → f name ≡ o → AllByRecursion (λ x. f x.msap ≡ Some x) xs → AllByRecursion (λ x. f x.msap ≡ Some x) (cons_option o xs)
  each-cons name o xs e a = grind (arith, common_steps)

  pub each : (names : List MsapId) → AllByRecursion (λ x. f x.msap ≡ Some x) (filter_map f names)
  each [] = tt
  each (name ∷ names) = each-cons name (f name) (filter_map f names) refl (each names)

-- a neighbor is no longer live after a tick exactly if it had one tick left
pub gone_as_aged : (past : List TableEvent) (xs : List Neighbor) → AllByRecursion (λ x. live x.msap past ≡ Some x) xs → AllByRecursion (λ x. is_none (live x.msap (ticked ∷ past)) ≡ is_none (aged x)) xs
gone_as_aged past [] a = tt
gone_as_aged past (x ∷ xs) a = (ap is_none (live-ticked x.msap past ∙ ap (option_and_then aged) a.0), gone_as_aged past xs a.1)

expires_as_aged : (p : Neighbor → Bool) (xs : List Neighbor) → AllByRecursion (λ x. p x ≡ is_none (aged x)) xs → filter expires xs ≡ filter p xs
expires_as_aged p [] a = refl
expires_as_aged p (x ∷ xs) a = ap (λ b. cond b (x ∷ filter expires xs) (filter expires xs)) (one (nat_lt 1 x.left) ∙ sym a.0) ∙ ap (λ ys. cond (p x) (x ∷ ys) ys) (expires_as_aged p xs a.1)
  where
    one : (b : Bool) → not b ≡ is_none (cond b (Some (record x { left = x.left - 1 })) None)
    one true = refl
    one false = refl

-- ## All MSAP identifiers

-- the neighbors that a tick ages out
pub gone-ticked : (past : List TableEvent) → filter expires (neighbors past) ≡ gone (ticked ∷ past)
unfolding neighbors
gone-ticked past = expires_as_aged (λ x. is_none (live x.msap (ticked ∷ past))) (neighbors past) (gone_as_aged past (neighbors past) (each (λ name. live name past) (λ name. live-named name past) (arrivals past)))

pub neighbors-ticked : (past : List TableEvent) → neighbors (ticked ∷ past) ≡ filter_map aged (neighbors past)
unfolding neighbors
neighbors-ticked past =
    filter_map-agree (λ name. live name (ticked ∷ past)) (λ name. option_and_then aged (live name past)) (λ name. live-ticked name past) (arrivals past)
    ∙ filter_map-and_then (λ name. live name past) aged (arrivals past)

none_live : (names : List MsapId) → filter_map {Y = Neighbor} (λ name. None) names ≡ []
none_live [] = refl
none_live (name ∷ names) = none_live names

pub neighbors-purged : (past : List TableEvent) → neighbors (purged ∷ past) ≡ []
unfolding neighbors
neighbors-purged past =
    filter_map-agree (λ name. live name (purged ∷ past)) (λ name. None) (λ name. live-other name purged past refl) (arrivals past)
    ∙ none_live (arrivals past)

forgets : (name other : MsapId) (o : Option Neighbor) → ((x : Neighbor) → o ≡ Some x → x.msap ≡ other) → cond (same_msap name other) None o ≡ option_and_then (keep (λ x. not (is_named name x))) o
forgets name other o h = grind (arith, common_steps)

pub neighbors-forgot : (name : MsapId) (past : List TableEvent) → neighbors (forgot name ∷ past) ≡ filter (λ x. not (is_named name x)) (neighbors past)
unfolding neighbors
neighbors-forgot name past =
    filter_map-agree (λ other. live other (forgot name ∷ past)) (λ other. option_and_then (keep (λ x. not (is_named name x))) (live other past))
    (λ other. live-other other (forgot name) past refl ∙ forgets name other (live other past) (live-named other past)) (arrivals past)
    ∙ filter_map-and_then (λ other. live other past) (keep (λ x. not (is_named name x))) (arrivals past)
    ∙ filter_map-keep (λ x. not (is_named name x)) (neighbors past)

pub neighbors-dropped : (name : MsapId) (ttl : ℕ) (octets : List ℕ) (past : List TableEvent) → neighbors (learned name ttl octets Dropped ∷ past) ≡ neighbors past
unfolding neighbors
neighbors-dropped name ttl octets past = grind (arith, common_steps, filter_map-agree, live-other)

pub neighbors-limit_set : (limit : ℕ) (past : List TableEvent) → neighbors (limit_set limit ∷ past) ≡ neighbors past
unfolding neighbors
neighbors-limit_set limit past = filter_map-agree (λ name. live name (limit_set limit ∷ past)) (λ name. live name past) (λ name. live-other name (limit_set limit) past refl) (arrivals past)

refreshes : (name other : MsapId) (ttl : ℕ) (octets : List ℕ) (o : Option Neighbor) → (same_msap name other ≡ true → is_some o ≡ true) → ((x : Neighbor) → o ≡ Some x → x.msap ≡ other)
    → cond (same_msap name other) (Some (fresh name ttl octets)) o ≡ option_map (refreshed name ttl octets) o
refreshes name other ttl octets o s h = grind (arith, common_steps, cond-false, false_from_ne_true, false≢true)

pub live-stored : (name other : MsapId) (ttl : ℕ) (octets : List ℕ) (answer : Learned) (past : List TableEvent) → 0 < ttl → is_stored answer ≡ true → live other (learned name ttl octets answer ∷ past) ≡ cond (same_msap name other) (Some (fresh name ttl octets)) (live other past)
live-stored name other ttl octets answer past t stored = grind (arith, common_steps, live-other, cond-true, lt-ltb)

pub neighbors-refreshed : (name : MsapId) (ttl : ℕ) (octets : List ℕ) (past : List TableEvent) → 0 < ttl → is_some (live name past) ≡ true → neighbors (learned name ttl octets Refreshed ∷ past) ≡ map (refreshed name ttl octets) (neighbors past)
unfolding neighbors
neighbors-refreshed name ttl octets past t held =
    filter_map-agree (λ other. live other (learned name ttl octets Refreshed ∷ past)) (λ other. option_map (refreshed name ttl octets) (live other past))
    (λ other. live-stored name other ttl octets Refreshed past t refl
    ∙ refreshes name other ttl octets (live other past) (λ e. ap (λ n. is_some (live n past)) (sym (same_msap-true name other e)) ∙ held) (live-named other past)) (arrivals past)
    ∙ filter_map-map (λ other. live other past) (refreshed name ttl octets) (arrivals past)

-- a new MSAP identifier does not change the other neighbors
others : (name : MsapId) (new : Neighbor) (f : MsapId → Option Neighbor) → f name ≡ None → (names : List MsapId)
    → filter_map (λ other. cond (same_msap name other) (Some new) (f other)) (filter (λ other. not (same_msap name other)) names) ≡ filter_map f names
others name new f h [] = refl
others name new f h (other ∷ names) =
    elim (cases_Bool (same_msap name other)) [
      | inl t ↦ rw t (others name new f h names ∙ sym (ap (λ o. cons_option o (filter_map f names)) (ap f (sym (same_msap-true name other t)) ∙ h)))
      | inr e ↦ rw (e, e) (ap (cons_option (f other)) (others name new f h names))
    ]

pub neighbors-new : (name : MsapId) (ttl : ℕ) (octets : List ℕ) (past : List TableEvent) → 0 < ttl → live name past ≡ None → neighbors (learned name ttl octets New ∷ past) ≡ neighbors past ++ fresh name ttl octets ∷ []
unfolding neighbors
neighbors-new name ttl octets past t gone =
    let after : MsapId → Option Neighbor = λ other. cond (same_msap name other) (Some (fresh name ttl octets)) (live other past) in
    let before : List MsapId = filter (λ other. not (same_msap name other)) (arrivals past) in
    filter_map-agree (λ other. live other (learned name ttl octets New ∷ past)) after (λ other. live-stored name other ttl octets New past t refl) (before ++ name ∷ [])
    ∙ filter_map-append after before (name ∷ [])
    ∙ ap (λ xs. xs ++ filter_map after (name ∷ [])) (others name (fresh name ttl octets) (λ other. live other past) gone (arrivals past))
    ∙ ap (λ b. neighbors past ++ cons_option (cond b (Some (fresh name ttl octets)) (live name past)) []) (same_msap-refl name)

-- ## Live MSAP identifiers are among the arrivals

-- every live MSAP identifier is among the arrivals
abbrev pub Arrived : List TableEvent → Type 0
Arrived past = (name : MsapId) → is_some (live name past) ≡ true → list_any (same_msap name) (arrivals past) ≡ true

still_there : (name new : MsapId) → same_msap new name ≡ false → (names : List MsapId) → list_any (same_msap name) names ≡ true → list_any (same_msap name) (filter (λ other. not (same_msap new other)) names) ≡ true
still_there name new d names h =
    any-filter_same (same_msap name) (λ other. not (same_msap new other)) true (λ k e. ap (λ n. not (same_msap new n)) (sym (same_msap-true name k e)) ∙ ap not d) names ∙ h

was_some : (o : Option Neighbor) → is_some (option_and_then aged o) ≡ true → is_some o ≡ true
was_some o h = grind (arith, common_steps)

pub Arrived-ticked : (past : List TableEvent) → Arrived past → Arrived (ticked ∷ past)
Arrived-ticked past h name s = h name (was_some (live name past) (ap is_some (sym (live-ticked name past)) ∙ s))

pub Arrived-purged : (past : List TableEvent) → Arrived (purged ∷ past)
Arrived-purged past name s = absurd (false≢true (ap is_some (sym (live-other name purged past refl)) ∙ s))

some_of_two : (b : Bool) (x y : Option Neighbor) → is_some (cond b x y) ≡ true → ((b ≡ true) × (is_some x ≡ true)) ⊎ ((b ≡ false) × (is_some y ≡ true))
some_of_two b x y h = grind (arith, common_steps)

pub Arrived-forgot : (name : MsapId) (past : List TableEvent) → Arrived past → Arrived (forgot name ∷ past)
Arrived-forgot name past h other s = grind (arith, common_steps, some_of_two, live-other, false≢true)

pub Arrived-limit_set : (limit : ℕ) (past : List TableEvent) → Arrived past → Arrived (limit_set limit ∷ past)
Arrived-limit_set limit past h name s = h name (ap is_some (sym (live-other name (limit_set limit) past refl)) ∙ s)

pub Arrived-dropped : (name : MsapId) (ttl : ℕ) (octets : List ℕ) (past : List TableEvent) → Arrived past → Arrived (learned name ttl octets Dropped ∷ past)
Arrived-dropped name ttl octets past h other s = h other (ap is_some (sym (live-other other (learned name ttl octets Dropped) past refl)) ∙ s)

pub Arrived-refreshed : (name : MsapId) (ttl : ℕ) (octets : List ℕ) (past : List TableEvent) → is_some (live name past) ≡ true → Arrived past → Arrived (learned name ttl octets Refreshed ∷ past)
Arrived-refreshed name ttl octets past held h other s =
    elim (some_of_two (same_msap name other) (live_after 0 (learned name ttl octets Refreshed)) (live other past) (ap is_some (sym (live-other other (learned name ttl octets Refreshed) past refl)) ∙ s)) [
      | inl w ↦ h other (ap (λ n. is_some (live n past)) (sym (same_msap-true name other w.0)) ∙ held)
      | inr w ↦ h other w.1
    ]

pub Arrived-new : (name : MsapId) (ttl : ℕ) (octets : List ℕ) (past : List TableEvent) → Arrived past → Arrived (learned name ttl octets New ∷ past)
Arrived-new name ttl octets past h other s = grind (arith, common_steps, some_of_two, live-other, list_any-append, or_right, or_left, same_msap-sym, still_there)

-- a neighbor with this MSAP identifier is in the list if the identifier arrived and is live
there : (name : MsapId) (o : Option Neighbor) (xs : List Neighbor) (r : Bool) → ((x : Neighbor) → o ≡ Some x → is_named name x ≡ true) → list_any (is_named name) xs ≡ (r && is_some o) → list_any (is_named name) (cons_option o xs) ≡ is_some o
there name o xs r h e = grind (arith, common_steps, and_right)

elsewhere : (name : MsapId) (o : Option Neighbor) (xs : List Neighbor) → ((x : Neighbor) → o ≡ Some x → is_named name x ≡ false) → list_any (is_named name) (cons_option o xs) ≡ list_any (is_named name) xs
elsewhere name o xs h = grind (arith, common_steps)

has_named : (name : MsapId) (f : MsapId → Option Neighbor) → ((other : MsapId) (x : Neighbor) → f other ≡ Some x → x.msap ≡ other) → (names : List MsapId)
    → list_any (is_named name) (filter_map f names) ≡ (list_any (same_msap name) names && is_some (f name))
has_named name f h [] = refl
has_named name f h (other ∷ names) =
    elim (cases_Bool (same_msap name other)) [
      | inl t ↦
          let same : f name ≡ f other = ap f (same_msap-true name other t) in
          there name (f other) (filter_map f names) (list_any (same_msap name) names) (λ x e. ap (same_msap name) (h other x e) ∙ t) (has_named name f h names ∙ ap (λ o. list_any (same_msap name) names && is_some o) same)
          ∙ ap is_some (sym same) ∙ ap (λ b. (b || list_any (same_msap name) names) && is_some (f name)) (sym t)
      | inr d ↦
          elsewhere name (f other) (filter_map f names) (λ x e. ap (same_msap name) (h other x e) ∙ d) ∙ has_named name f h names
          ∙ ap (λ b. (b || list_any (same_msap name) names) && is_some (f name)) (sym d)
    ]

and_known : (a b : Bool) → (b ≡ true → a ≡ true) → (a && b) ≡ b
and_known a b h = grind (arith, common_steps, and_right)

-- a neighbor with an MSAP identifier is held exactly if the identifier is live
pub has-live : (past : List TableEvent) → Arrived past → (name : MsapId) → list_any (is_named name) (neighbors past) ≡ is_some (live name past)
unfolding neighbors
has-live past h name = has_named name (λ other. live other past) (λ other. live-named other past) (arrivals past) ∙ and_known (list_any (same_msap name) (arrivals past)) (is_some (live name past)) (h name)

-- ## Too many neighbors

most_left-more : (n : ℕ) (events : List TableEvent) → most_left (suc n) events ≡ most_left n events - 1
most_left-more n [] = omega arith
most_left-more n (learned name ttl octets Dropped ∷ past) = omega (arith, most_left-more n past)
most_left-more n (ticked ∷ past) = most_left-more (suc n) past
most_left-more n (event ∷ past) = most_left-more n past

pub too_many-ticked : (past : List TableEvent) → too_many_left (ticked ∷ past) ≡ too_many_left past - 1
unfolding too_many_left
too_many-ticked past = most_left-more 0 (since is_purge past)

pub too_many-dropped : (name : MsapId) (ttl : ℕ) (octets : List ℕ) (past : List TableEvent) → too_many_left (learned name ttl octets Dropped ∷ past) ≡ max (too_many_left past) ttl
unfolding too_many_left
too_many-dropped name ttl octets past = omega arith

-- ## The results of `learn`

-- the result of `learn`, given whether the neighbor is held and whether there is room
abbrev pub answer_by : Bool → Bool → Learned
answer_by held room = cond held Refreshed (cond room New Dropped)

pub by_refreshed : (held room : Bool) → answer_by held room ≡ Refreshed → held ≡ true
by_refreshed held room h = grind arith

pub by_new : (held room : Bool) → answer_by held room ≡ New → (held ≡ false) × (room ≡ true)
by_new held room h = grind arith

pub by_dropped : (held room : Bool) → answer_by held room ≡ Dropped → (held ≡ false) × (room ≡ false)
by_dropped held room h = grind arith
