-- The live neighbors are those whose last stored frame has not expired.
use Rattle.std.proofs.Common.{◌+◌, ◌≡◌, ℕ, suc, ◌-◌, ◌<◌, Bool, true, false, ◌||◌, cond, nat_lt, List, [], ◌∷◌, ◌++◌, Option, Some, None, refl, inl, inr, ap, ◌∙◌, sym, subst, arith, is_none, length, count_by}
use Rattle.std.specs.List.{find, filter_map, cons_option, list_any, AllByRecursion, Contains}
use Rattle.std.proofs.lemmas.Bool.{cases_Bool, and_parts, and_from, ltb-true, lt-ltb, cond-true}
use Rattle.std.proofs.lemmas.Option.{option_and_then_some, cond_some}
use Rattle.std.proofs.lemmas.List.Elements.{All-contains, All-from_recursion}
use Rattle.lldp_pdu.specs.Msap.{MsapId}
use Rattle.lldp_table.specs.Msap.{same_msap}
use Rattle.lldp_table.proofs.Msap.{same_msap-refl, same_msap-true}
use Rattle.lldp_table.specs.Events.{aged_out, Call, tick, TableEvent, learned, ticked, Neighbor, live, live_after, ticks, since, decides_on, arrivals, neighbors, is_stored, events_of}
use Rattle.lldp_table.specs.Contents.{Contents}
use Rattle.lldp_table.specs.Code.Steps.{aged}
use Rattle.lldp_table.specs.Standing.{Stands}
use Rattle.lldp_table.specs.Positions.{IsLastStored}
use Rattle.std.proofs.lemmas.List.Sums.{sum_by-cons}
use Rattle.lldp_table.proofs.Live.Events.{each, gone_as_aged, neighbors-ticked, live-named}
use Rattle.lldp_table.proofs.Standing.Calls.{arrived}
use Rattle.std.proofs.lemmas.Grind.{common_steps}

-- ## The last event that passes a test

-- the list is split at the last event that passes the test
record Parted (test : TableEvent → Bool) (events : List TableEvent) (event : TableEvent) : Type 0 where
  earlier : List TableEvent
  split : events ≡ since test events ++ event ∷ earlier
  none : AllByRecursion (λ e. test e ≡ false) (since test events)
  passes : test event ≡ true

parted : (test : TableEvent → Bool) (events : List TableEvent) (event : TableEvent) → find test events ≡ Some event → Parted test events event
parted test [] event h = cc
parted test (e ∷ past) event h =
    elim (cases_Bool (test e)) [
      | inl t ↦
          let same : Some e ≡ Some event = ap (λ b. cond b (Some e) (find test past)) (sym t) ∙ h in
          let is : e ≡ event = cc in
          record {
            earlier = past;
            split = rw t (ap (λ x. x ∷ past) is);
            none = rw t tt;
            passes = ap test (sym is) ∙ t;
          }
      | inr f ↦
          let rest = parted test past event (ap (λ b. cond b (Some e) (find test past)) (sym f) ∙ h) in
          record {
            earlier = rest.earlier;
            split = ap (λ xs. e ∷ xs) rest.split ∙ ap (λ b. cond b [] (e ∷ since test past) ++ event ∷ rest.earlier) (sym f);
            none = subst (λ b. AllByRecursion (λ x. test x ≡ false) (cond b [] (e ∷ since test past))) (sym f) (f, rest.none);
            passes = rest.passes;
          }
    ]

-- the converse: `since` returns the part in front of a passing event if no event in it passes
since-parted : (test : TableEvent → Bool) (later earlier : List TableEvent) (event : TableEvent) → AllByRecursion (λ e. test e ≡ false) later → test event ≡ true → since test (later ++ event ∷ earlier) ≡ later
since-parted test [] earlier event a t = ap (λ b. cond b [] (event ∷ since test earlier)) t
since-parted test (e ∷ later) earlier event a t = ap (λ b. cond b [] (e ∷ since test (later ++ event ∷ earlier))) a.0 ∙ ap (λ xs. e ∷ xs) (since-parted test later earlier event a.1 t)

find-parted : (test : TableEvent → Bool) (later earlier : List TableEvent) (event : TableEvent) → AllByRecursion (λ e. test e ≡ false) later → test event ≡ true → find test (later ++ event ∷ earlier) ≡ Some event
find-parted test [] earlier event a t = ap (λ b. cond b (Some event) (find test earlier)) t
find-parted test (e ∷ later) earlier event a t = ap (λ b. cond b (Some e) (find test (later ++ event ∷ earlier))) a.0 ∙ find-parted test later earlier event a.1 t

-- ## A live neighbor has the last stored frame of its MSAP identifier

module _ (events : List TableEvent) (x : Neighbor) where
  last_is : (event : TableEvent) → find (decides_on x.msap) events ≡ Some event → live_after (ticks (since (decides_on x.msap) events)) event ≡ Some x → IsLastStored events x
  last_is (learned name ttl octets answer) found here =
      let later : List TableEvent = since (decides_on x.msap) events in
      let p = cond_some (nat_lt (ticks later) ttl) (record { msap = name; octets = octets; ttl = ttl; left = ttl - ticks later }) x here in
      let less : ticks later < ttl = ltb-true (ticks later) ttl p.0 in
      let same_ttl : ttl ≡ x.ttl = ap (λ (y : Neighbor). y.ttl) p.1 in
      let same_left : ttl - ticks later ≡ x.left = ap (λ (y : Neighbor). y.left) p.1 in
      let q = parted (decides_on x.msap) events (learned name ttl octets answer) found in
      record {
        later = later;
        answer = answer;
        earlier = q.earlier;
        split = q.split ∙ ap (λ (y : Neighbor). later ++ learned y.msap y.ttl y.octets answer ∷ q.earlier) p.1;
        stored = (and_parts (is_stored answer) (same_msap name x.msap) q.passes).0;
        last = q.none;
        left = omega arith;
        lives = omega arith;
      }
  last_is _ found here = cc

  pub last_from_live : live x.msap events ≡ Some x → IsLastStored events x
  unfolding live
  last_from_live h = option_and_then_some _ (find (decides_on x.msap) events) x h (λ event found here. last_is event found here)

  pub live_from_last : IsLastStored events x → live x.msap events ≡ Some x
  unfolding live
  live_from_last h = grind (arith, common_steps, and_from, same_msap-refl, find-parted, since-parted, cond-true, lt-ltb)

-- ## The listed neighbors are exactly the live ones

module _ (f : MsapId → Option Neighbor) (named : (name : MsapId) (x : Neighbor) → f name ≡ Some x → x.msap ≡ name) where
  contains-behind : (o : Option Neighbor) (xs : List Neighbor) (x : Neighbor) → Contains xs x → Contains (cons_option o xs) x
  contains-behind None xs x c = c
  contains-behind (Some y) xs x c = (suc c.0, omega (arith, c.1), c.2)

  contains-front : (o : Option Neighbor) (xs : List Neighbor) (x : Neighbor) → o ≡ Some x → Contains (cons_option o xs) x
  contains-front o xs x e = grind (arith, common_steps)

  contains_it : (names : List MsapId) (x : Neighbor) → list_any (same_msap x.msap) names ≡ true → f x.msap ≡ Some x → Contains (filter_map f names) x
  contains_it [] x a e = cc
  contains_it (name ∷ names) x a e =
      elim (cases_Bool (same_msap x.msap name)) [
        | inl t ↦ contains-front (f name) (filter_map f names) x (ap f (sym (same_msap-true x.msap name t)) ∙ e)
        | inr d ↦ contains-behind (f name) (filter_map f names) x (contains_it names x (ap (λ b. b || list_any (same_msap x.msap) names) (sym d) ∙ a) e)
      ]

pub last_stored_from_held : (opened : ℕ) (calls : List Call) (x : Neighbor) → Contains (neighbors (events_of opened calls)) x → IsLastStored (events_of opened calls) x
unfolding neighbors
last_stored_from_held opened calls x c = grind (arith, common_steps, last_from_live, All-contains, All-from_recursion, each, live-named)

pub held_from_last_stored : (opened : ℕ) (calls : List Call) (x : Neighbor) → IsLastStored (events_of opened calls) x → Contains (neighbors (events_of opened calls)) x
unfolding neighbors
held_from_last_stored opened calls x h = grind (arith, common_steps, live_from_last, contains_it, live-named, arrived)

-- ## Ageing out

abbrev one_if : Bool → ℕ
one_if b = cond b 1 0

-- the number that age out plus the number that live on is the number of all neighbors
aged_and_left : (gone : Neighbor → Bool) (xs : List Neighbor) → AllByRecursion (λ x. gone x ≡ is_none (aged x)) xs → count_by gone xs + length (filter_map aged xs) ≡ length xs
aged_and_left gone [] a = refl
aged_and_left gone (x ∷ xs) a = grind (arith, common_steps, sum_by-cons, aged_and_left gone xs a.1)

pub aged_out-count : (past : List TableEvent) → aged_out past + length (neighbors (ticked ∷ past)) ≡ length (neighbors past)
unfolding neighbors
aged_out-count past =
    let each_live = each (λ name. live name past) (λ name. live-named name past) (arrivals past) in
    let counted = aged_and_left (λ (x : Neighbor). is_none (live x.msap (ticked ∷ past))) (neighbors past) (gone_as_aged past (neighbors past) each_live) in
    ap (λ xs. aged_out past + length xs) (neighbors-ticked past) ∙ counted

pub tick_answers : (old new : Contents) (opened : ℕ) (calls : List Call) (n : ℕ) → Stands opened calls old → Stands opened (tick ∷ calls) new → n + length new.neighbors ≡ length old.neighbors → n ≡ aged_out (events_of opened calls)
unfolding events_of
tick_answers old new opened calls n h k e = grind (arith, common_steps, aged_out-count)
