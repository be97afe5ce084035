-- The octets held for an MSAP identifier before and after a frame.
use Rattle.std.proofs.Common.{◌≡◌, ◌≢◌, ℕ, zero, suc, ◌+◌, ◌<◌, Bool, true, false, inl, inr, List, [], ◌∷◌, ◌++◌, length, map, get_or, Option, Some, None, refl, sym, ap, subst, ◌∙◌, arith}
use Rattle.std.specs.Prelude.{not, nat_lt, if◌then◌else◌, filter, find, is_some}
use Rattle.std.specs.List.{list_any, AllByRecursion, IsDistinct, Contains}
use Rattle.std.specs.Option.{option_map}
use Rattle.std.specs.Str.{bytes_eq}
use Rattle.std.proofs.lemmas.Bool.{cases_Bool, both_ways, false_from_ne_true}
use Rattle.std.proofs.lemmas.List.Folds.{list_any_at}
use Rattle.std.proofs.lemmas.Slice.Eq.{bytes_eq-Decides}
use Rattle.std.proofs.lemmas.List.{length-map, length-append}
use Rattle.std.proofs.lemmas.Grind.{common_steps}
use Rattle.std.proofs.lemmas.Map.Keys.{IsDistinct-head, IsDistinct-tail}
use Rattle.lldp_pdu.specs.Msap.{MsapId}
use Rattle.lldp_table.specs.Msap.{same_msap}
use Rattle.lldp_table.specs.Events.{Neighbor}
use Rattle.lldp_table.specs.Contents.{Contents, is_named, holds_name, names_of, IsSound}
use Rattle.lldp_table.specs.Code.Steps.{fresh, refreshed, learn_answer, after_forget, after_learn, learned_as}
use Rattle.lldp_table.specs.Outcomes.{learned_of, octets_held, outcome_for, store_outcome, outcome_between}
use Rattle.lldp_table.specs.declared.learned.Learned.{Learned}
use Rattle.lldp_table.specs.declared.learned.Learned.TheVariants.{New, Refreshed, Dropped}
use Rattle.lldp_table.specs.declared.learned.Outcome.{Outcome}
use Rattle.lldp_table.specs.declared.learned.Outcome.TheVariants.{Added, Changed, Repeated, NoRoom}
use Rattle.lldp_table.specs.Laws.Changes.{HoldsOctets, HoldsOthers}
use Rattle.lldp_table.proofs.Msap.{same_msap-true, same_msap-refl, same_msap-sym}

none_found : (o : Option Neighbor) → is_some o ≡ false → o ≡ None
none_found None h = refl
none_found (Some x) h = absurd cc

same_some : (o : Option Neighbor) → is_some o ≡ is_some (option_map (λ (x : Neighbor). x.octets) o)
same_some None = refl
same_some (Some x) = refl

-- ## The neighbor with a given MSAP identifier

module _ (name : MsapId) where
  abbrev found : List Neighbor → Option Neighbor
  found xs = find (is_named name) xs

  abbrev others : List Neighbor → List Neighbor
  others xs = filter (λ (x : Neighbor). not (is_named name x)) xs

  all_others : (xs : List Neighbor) → found xs ≡ None → others xs ≡ xs
  all_others [] h = refl
  all_others (x ∷ xs) h = grind (arith, common_steps, all_others xs)

  none_named : (x : Neighbor) (xs : List Neighbor) → name ≡ x.msap → AllByRecursion (λ (other : MsapId). same_msap x.msap other ≡ false) (names_of xs) → found xs ≡ None
  none_named x [] e h = refl
  none_named x (y ∷ ys) e h = rw (ap (λ (n : MsapId). same_msap n y.msap) e ∙ h.0) (none_named x ys e h.1)

  one_fewer : (xs : List Neighbor) (x : Neighbor) → found xs ≡ Some x → IsDistinct same_msap (names_of xs) → suc (length (others xs)) ≡ length xs
  one_fewer [] x h d = absurd cc
  one_fewer (y ∷ ys) x h d = elim (cases_Bool (is_named name y)) [
    | inl t ↦ rw t (ap (λ (zs : List Neighbor). suc (length zs)) (all_others ys (none_named y ys (same_msap-true name y.msap t) (IsDistinct-head same_msap y.msap (names_of ys) d))))
    | inr f ↦ rw f (ap suc (one_fewer ys x (sym (ap (λ (b : Bool). if b then Some y else found ys) f) ∙ h) (IsDistinct-tail same_msap y.msap (names_of ys) d)))
  ]

  any_found : (xs : List Neighbor) → list_any (is_named name) xs ≡ is_some (found xs)
  any_found [] = refl
  any_found (x ∷ xs) = elim (cases_Bool (is_named name x)) [ inl t ↦ rw t refl | inr f ↦ rw f (any_found xs) ]

  other_first : (x : Neighbor) (xs : List Neighbor) (k : ℕ) (d : Neighbor) → k < length xs → AllByRecursion (λ n. same_msap x.msap n ≡ false) (names_of xs) → is_named name (get_or xs k d) ≡ true → is_named name x ≡ false
  other_first x (y ∷ xs) zero d h a e = same_msap-sym name x.msap ∙ ap (same_msap x.msap) (same_msap-true name y.msap e) ∙ a.0
  other_first x (y ∷ xs) (suc k) d h a e = other_first x xs k d (omega arith) a.1 e
  other_first x [] k d h a e = absurd (omega arith)

  -- the neighbor at the place with this MSAP identifier is the one that is found
  pub found_at : (xs : List Neighbor) (k : ℕ) (d : Neighbor) → k < length xs → is_named name (get_or xs k d) ≡ true → IsDistinct same_msap (names_of xs) → found xs ≡ Some (get_or xs k d)
  found_at [] k d h e u = absurd (omega arith)
  found_at (x ∷ xs) zero d h e u = rw e refl
  found_at (x ∷ xs) (suc k) d h e u = rw (other_first x xs k d (omega arith) (IsDistinct-head same_msap x.msap (names_of xs) u) e) (found_at xs k d (omega arith) e (IsDistinct-tail same_msap x.msap (names_of xs) u))

  module _ (ttl : ℕ) (octets : List ℕ) where
    abbrev stored : List Neighbor → Option (List ℕ)
    stored xs = option_map (λ (x : Neighbor). x.octets) (found xs)

    fresh_found : (xs : List Neighbor) → stored (fresh name ttl octets ∷ xs) ≡ Some octets
    fresh_found xs = rw (same_msap-refl name) refl

    put_found : (xs : List Neighbor) → found xs ≡ None → stored (xs ++ fresh name ttl octets ∷ []) ≡ Some octets
    put_found [] h = fresh_found []
    put_found (x ∷ xs) h = grind (arith, common_steps, fresh_found, put_found xs)

    refreshed_found : (xs : List Neighbor) (x : Neighbor) → found xs ≡ Some x → stored (map (refreshed name ttl octets) xs) ≡ Some octets
    refreshed_found [] x h = absurd cc
    refreshed_found (y ∷ ys) x h = grind (arith, common_steps, fresh_found, refreshed_found ys x)

-- octets are held exactly for the identifiers that the table holds
pub held_octets : (table : Contents) (name : MsapId) → holds_name table name ≡ is_some (octets_held table name)
held_octets table name = any_found name table.neighbors ∙ same_some (find (is_named name) table.neighbors)

-- no octets are held for an identifier that the table does not hold
pub none_held : (table : Contents) (name : MsapId) → holds_name table name ≡ false → octets_held table name ≡ None
none_held table name h = let none : find (is_named name) table.neighbors ≡ None = none_found _ (sym (any_found name table.neighbors) ∙ h) in rw none refl

-- ## What a frame does

-- how many neighbors more the table has afterwards
abbrev pub more_by : Outcome → ℕ
more_by Added = 1
more_by outcome = 0

-- what the result of `store` says of the table before and after it, given the result of `learn`
record Says (table : Contents) (name : MsapId) (ttl : ℕ) (octets : List ℕ) (outcome : Outcome) (answer : Learned) : Type 0 where
  between : outcome ≡ outcome_between (octets_held table name) (octets_held (learned_as answer table name ttl octets) name)
  is : learned_of outcome ≡ answer
  grows : length (learned_as answer table name ttl octets).neighbors ≡ more_by outcome + length table.neighbors

module _ (table : Contents) (name : MsapId) (ttl : ℕ) (octets : List ℕ) where
  abbrev Said : Outcome → Type 0
  Said outcome = Says table name ttl octets outcome (learn_answer table name)

  -- `said_as` transports the statement to the results that `store` and `learn` compute
  said_as : {outcome is : Outcome} {answer : Learned} → is ≡ outcome → learn_answer table name ≡ answer → Says table name ttl octets outcome answer → Said is
  said_as o a s = rw (o, a) s

  refreshed_as : (outcome : Outcome) (x : Neighbor) → find (is_named name) table.neighbors ≡ Some x → outcome ≡ (if bytes_eq x.octets octets then Repeated else Changed)
      → learned_of outcome ≡ Refreshed → more_by outcome ≡ 0 → Said outcome
  refreshed_as outcome x e o is none =
      let answer : learn_answer table name ≡ Refreshed = rw (any_found name table.neighbors ∙ ap is_some e) refl in
      let few : length (learned_as Refreshed table name ttl octets).neighbors ≡ length table.neighbors = length-map table.neighbors (refreshed name ttl octets) in
      said_as refl answer (record { between = o ∙ rw (e, refreshed_found name ttl octets table.neighbors x e) refl; is = is; grows = omega (arith, none, few) })

  kept_as : (same : Bool) (x : Neighbor) → find (is_named name) table.neighbors ≡ Some x → bytes_eq x.octets octets ≡ same → Said (if same then Repeated else Changed)
  kept_as true x e b = refreshed_as Repeated x e (rw b refl) refl refl
  kept_as false x e b = refreshed_as Changed x e (rw b refl) refl refl

  said : (o : Option Neighbor) (room : Bool) → find (is_named name) table.neighbors ≡ o → nat_lt (length table.neighbors) table.limit ≡ room
      → Said (outcome_for table (option_map (λ (x : Neighbor). x.octets) o) octets)
  said (Some x) room e r = kept_as (bytes_eq x.octets octets) x e refl
  said None true e r =
      let more : length (learned_as New table name ttl octets).neighbors ≡ 1 + length table.neighbors = length-append table.neighbors (fresh name ttl octets ∷ []) ∙ omega arith in
      said_as {outcome = Added} {answer = New} (rw r refl) (rw (any_found name table.neighbors ∙ ap is_some e, r) refl)
      (record { between = rw (e, put_found name ttl octets table.neighbors e) refl; is = refl; grows = more })
  said None false e r =
      said_as {outcome = NoRoom} {answer = Dropped} (rw r refl) (rw (any_found name table.neighbors ∙ ap is_some e, r) refl)
      (record { between = rw e refl; is = refl; grows = omega arith })

  says : Said (store_outcome table name octets)
  says = said (find (is_named name) table.neighbors) (nat_lt (length table.neighbors) table.limit) refl refl

  pub outcome_answers : learned_of (store_outcome table name octets) ≡ learn_answer table name
  outcome_answers = says.is

  pub outcome_grows : length (after_learn table name ttl octets).neighbors ≡ more_by (store_outcome table name octets) + length table.neighbors
  outcome_grows = says.grows

  pub outcome_between_is : {outcome : Outcome} {next : Contents} → outcome ≡ store_outcome table name octets → next ≡ after_learn table name ttl octets
      → outcome ≡ outcome_between (octets_held table name) (octets_held next name)
  outcome_between_is o n = o ∙ says.between ∙ ap (λ (t : Contents). outcome_between (octets_held table name) (octets_held t name)) (sym n)

-- ## What forgetting does

forgets : (table : Contents) (name : MsapId) (o : Option Neighbor) → find (is_named name) table.neighbors ≡ o → IsSound table → length (after_forget table name).neighbors + (if is_some o then 1 else 0) ≡ length table.neighbors
forgets table name None e sound = omega (arith, ap length (all_others name table.neighbors e))
forgets table name (Some x) e sound = omega (arith, one_fewer name table.neighbors x e sound.distinct)

-- a sound table that forgets an identifier that it holds has one neighbor fewer
pub forget_shrinks : (table : Contents) (name : MsapId) → IsSound table → length (after_forget table name).neighbors + (if holds_name table name then 1 else 0) ≡ length table.neighbors
forget_shrinks table name sound = rw (any_found name table.neighbors) (forgets table name _ refl sound)

-- ## The neighbor that a name finds

abbrev Held : Contents → MsapId → Type 0
Held table name = (neighbor : Neighbor) × Contains table.neighbors neighbor × (neighbor.msap ≡ name)

found_in : (name : MsapId) (xs : List Neighbor) (x : Neighbor) → find (is_named name) xs ≡ Some x → Contains xs x × (is_named name x ≡ true)
found_in name [] x h = absurd cc
found_in name (y ∷ ys) x h = elim (cases_Bool (is_named name y)) [
  | inl t ↦ let same : y ≡ x = cc (h, ap (λ (b : Bool). if b then Some y else find (is_named name) ys) t) in ((0, omega arith, same), subst (λ (z : Neighbor). is_named name z ≡ true) same t)
  | inr f ↦
      let behind = found_in name ys x (sym (ap (λ (b : Bool). if b then Some y else find (is_named name) ys) f) ∙ h) in
      let c = behind.0 in
      let lt = c.1 in
      ((suc c.0, omega arith, c.2), behind.1)
]

found_by : (name : MsapId) (table : Contents) (x : Neighbor) → IsSound table → Contains table.neighbors x → x.msap ≡ name → find (is_named name) table.neighbors ≡ Some x
found_by name table x sound c e =
    found_at name table.neighbors c.0 x c.1 (ap (is_named name) c.2 ∙ ap (same_msap name) e ∙ same_msap-refl name) sound.distinct ∙ ap Some c.2

held_found : (table : Contents) (name : MsapId) (o : Option Neighbor) → find (is_named name) table.neighbors ≡ o → is_some (option_map (λ (x : Neighbor). x.octets) o) ≡ true → Held table name
held_found table name None e t = absurd cc
held_found table name (Some x) e t = let f = found_in name table.neighbors x e in (x, f.0, sym (same_msap-true name x.msap f.1))

pub held_from : (table : Contents) (name : MsapId) → is_some (octets_held table name) ≡ true → Held table name
held_from table name t = held_found table name _ refl t

pub held_by : (table : Contents) (name : MsapId) → Held table name → is_some (octets_held table name) ≡ true
held_by table name h =
    let x = h.0 in
    let c = h.1 in
    sym (held_octets table name) ∙ list_any_at (is_named name) table.neighbors c.0 x c.1 (ap (is_named name) c.2 ∙ ap (same_msap name) h.2 ∙ same_msap-refl name)

-- ## The result of `store`, by the result of `learn` and by the octets held

added_new : (o : Outcome) (a : Learned) → learned_of o ≡ a → (o ≡ Added → a ≡ New) × (a ≡ New → o ≡ Added)
added_new Added a e = (λ h. sym e, λ h. refl)
added_new Changed a e = (λ h. absurd cc, λ h. absurd cc)
added_new Repeated a e = (λ h. absurd cc, λ h. absurd cc)
added_new NoRoom a e = (λ h. absurd cc, λ h. absurd cc)

no_room_dropped : (o : Outcome) (a : Learned) → learned_of o ≡ a → (o ≡ NoRoom → a ≡ Dropped) × (a ≡ Dropped → o ≡ NoRoom)
no_room_dropped NoRoom a e = (λ h. sym e, λ h. refl)
no_room_dropped Changed a e = (λ h. absurd cc, λ h. absurd cc)
no_room_dropped Repeated a e = (λ h. absurd cc, λ h. absurd cc)
no_room_dropped Added a e = (λ h. absurd cc, λ h. absurd cc)

module _ (table : Contents) (name : MsapId) (octets : List ℕ) where
  none_repeats : (room : Bool) → (if room then Added else NoRoom) ≢ Repeated
  none_repeats true h = cc
  none_repeats false h = cc

  none_changes : (room : Bool) → (if room then Added else NoRoom) ≢ Changed
  none_changes true h = cc
  none_changes false h = cc

  repeats : (b : Bool) → (if b then Repeated else Changed) ≡ Repeated → b ≡ true
  repeats true h = refl
  repeats false h = cc

  changes : (b : Bool) → (if b then Repeated else Changed) ≡ Changed → b ≡ false
  changes true h = cc
  changes false h = refl

  repeated_from : (o : Option Neighbor) → find (is_named name) table.neighbors ≡ o → outcome_for table (option_map (λ (x : Neighbor). x.octets) o) octets ≡ Repeated → HoldsOctets table name octets
  repeated_from None e h = absurd (none_repeats _ h)
  repeated_from (Some x) e h = let f = found_in name table.neighbors x e in (x, f.0, sym (same_msap-true name x.msap f.1), (bytes_eq-Decides x.octets octets).0 (repeats _ h))

  changed_from : (o : Option Neighbor) → find (is_named name) table.neighbors ≡ o → outcome_for table (option_map (λ (x : Neighbor). x.octets) o) octets ≡ Changed → HoldsOthers table name octets
  changed_from None e h = absurd (none_changes _ h)
  changed_from (Some x) e h =
      let f = found_in name table.neighbors x e in
      (x, f.0, sym (same_msap-true name x.msap f.1), λ same. both_ways (bytes_eq x.octets octets) (changes _ h) ((bytes_eq-Decides x.octets octets).1 same))

  outcome_of_found : (x : Neighbor) → find (is_named name) table.neighbors ≡ Some x → store_outcome table name octets ≡ (if bytes_eq x.octets octets then Repeated else Changed)
  outcome_of_found x e = ap (λ (o : Option Neighbor). outcome_for table (option_map (λ (y : Neighbor). y.octets) o) octets) e

  pub added_is : (store_outcome table name octets ≡ Added → learn_answer table name ≡ New) × (learn_answer table name ≡ New → store_outcome table name octets ≡ Added)
  added_is = added_new _ _ (outcome_answers table name 0 octets)

  pub no_room_is : (store_outcome table name octets ≡ NoRoom → learn_answer table name ≡ Dropped) × (learn_answer table name ≡ Dropped → store_outcome table name octets ≡ NoRoom)
  no_room_is = no_room_dropped _ _ (outcome_answers table name 0 octets)

  pub repeated_is : IsSound table → (store_outcome table name octets ≡ Repeated → HoldsOctets table name octets) × (HoldsOctets table name octets → store_outcome table name octets ≡ Repeated)
  repeated_is sound = (
    repeated_from _ refl,
    λ h. outcome_of_found h.0 (found_by name table h.0 sound h.1 h.2) ∙ ap (λ (b : Bool). if b then Repeated else Changed) ((bytes_eq-Decides h.0.octets octets).1 h.3),
  )

  pub changed_is : IsSound table → (store_outcome table name octets ≡ Changed → HoldsOthers table name octets) × (HoldsOthers table name octets → store_outcome table name octets ≡ Changed)
  changed_is sound = (
    changed_from _ refl,
    λ h. outcome_of_found h.0 (found_by name table h.0 sound h.1 h.2)
        ∙ ap (λ (b : Bool). if b then Repeated else Changed) (false_from_ne_true (bytes_eq h.0.octets octets) (λ t. h.3 ((bytes_eq-Decides h.0.octets octets).0 t))),
  )

  pub between_is : (ttl : ℕ) → store_outcome table name octets ≡ outcome_between (octets_held table name) (octets_held (after_learn table name ttl octets) name)
  between_is ttl = outcome_between_is table name ttl octets refl refl

  pub learned_is : learned_of (store_outcome table name octets) ≡ learn_answer table name
  learned_is = outcome_answers table name 0 octets

pub ruleset stores_tell_what_they_did = (added_is, no_room_is, repeated_is, changed_is, between_is, learned_is)
