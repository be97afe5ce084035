-- The order of the neighbors, and the remaining ticks of the too-many timer.
use Rattle.std.proofs.Common.{◌≡◌, ℕ, suc, ◌+◌, ◌-◌, ◌<◌, ◌≤◌, Bool, true, false, not, List, [], ◌∷◌, ◌++◌, Option, Some, None, refl, inl, inr, ap, ◌∙◌, arith, max}
use Rattle.std.specs.List.{filter, filter_map, cons_option, list_any, All, AllByRecursion, AllPairs}
use Rattle.std.proofs.lemmas.Bool.{or_left, or_right, or_from, cases_lt, not-true}
use Rattle.std.proofs.lemmas.List.Elements.{All-nil, All-cons, All-head, All-tail, All-push, All-filter, All-weaker, filter_passes}
use Rattle.std.proofs.lemmas.List.Quantifiers.{all_pairs_push}
use Rattle.std.proofs.lemmas.List.Kept.{AllPairs-cons, AllPairs-filter}
use Rattle.lldp_pdu.specs.Msap.{MsapId}
use Rattle.lldp_table.specs.Msap.{same_msap}
use Rattle.lldp_table.proofs.Msap.{same_msap-refl}
use Rattle.lldp_table.specs.Events.{TableEvent, learned, purged, ticked, Neighbor, live, arrivals, neighbors, ticks, since, is_purge, most_left, too_many_left}
use Rattle.lldp_table.specs.Positions.{makes_new, IsNewBefore, WasDropped}
use Rattle.lldp_table.specs.declared.learned.Learned.TheVariants.{New, Dropped}
use Rattle.lldp_table.proofs.Live.Events.{live-named}
use Rattle.std.proofs.lemmas.Grind.{common_steps}

-- ## The order

-- like `IsNewBefore`, but for MSAP identifiers instead of neighbors
record Before (events : List TableEvent) (one other : MsapId) : Type 0 where
  later : List TableEvent
  earlier : List TableEvent
  split : events ≡ later ++ earlier
  one_earlier : list_any (makes_new one) earlier ≡ true
  other_later : list_any (makes_new other) later ≡ true
  one_not_later : list_any (makes_new one) later ≡ false

Before-more : (event : TableEvent) (past : List TableEvent) (one other : MsapId) → makes_new one event ≡ false → Before past one other → Before (event ∷ past) one other
Before-more event past one other f h = record {
  later = event ∷ h.later;
  earlier = h.earlier;
  split = ap (λ es. event ∷ es) h.split;
  one_earlier = h.one_earlier;
  other_later = or_right (makes_new other event) (list_any (makes_new other) h.later) h.other_later;
  one_not_later = or_from (makes_new one event) (list_any (makes_new one) h.later) f h.one_not_later;
}

-- each MSAP identifier among the arrivals was added by some event
all_new : (events : List TableEvent) → All (λ n. list_any (makes_new n) events ≡ true) (arrivals events)
all_new [] = All-nil (λ n. false ≡ true)
all_new (learned name ttl octets New ∷ past) =
    let P : MsapId → Type 0 = λ n. list_any (makes_new n) (learned name ttl octets New ∷ past) ≡ true in
    All-push P (filter (λ n. not (same_msap name n)) (arrivals past)) name
    (All-filter (λ n. not (same_msap name n)) P (arrivals past) (All-weaker (λ n. list_any (makes_new n) past ≡ true) P (λ n e. or_right (same_msap name n) (list_any (makes_new n) past) e) (arrivals past) (all_new past)))
    (or_left (same_msap name name) (list_any (makes_new name) past) (same_msap-refl name))
all_new (event ∷ past) = all_new past

-- the arrivals are in the order in which each was last added
in_order : (events : List TableEvent) → AllPairs (Before events) (arrivals events)
in_order [] = λ i j d l m. absurd (omega arith)
in_order (learned name ttl octets New ∷ past) =
    let event : TableEvent = learned name ttl octets New in
    let differs : MsapId → Bool = λ n. not (same_msap name n) in
    let differ : All (λ n. differs n ≡ true) (filter differs (arrivals past)) = filter_passes differs (arrivals past) in
    all_pairs_push (Before (event ∷ past)) (filter differs (arrivals past)) name
    (λ i j d l m. Before-more event past _ _ (not-true _ (differ i d (omega arith))) (AllPairs-filter (Before past) differs (arrivals past) (in_order past) i j d l m))
    (λ k d l. record {
      later = event ∷ [];
      earlier = past;
      split = refl;
      one_earlier = All-filter differs (λ n. list_any (makes_new n) past ≡ true) (arrivals past) (all_new past) k d l;
      other_later = or_left (same_msap name name) false (same_msap-refl name);
      one_not_later = or_from _ false (not-true _ (differ k d l)) refl;
    })
in_order (event ∷ past) = λ i j d l m. Before-more event past _ _ refl (in_order past i j d l m)

module _ (events : List TableEvent) where
  before_all : (x : Neighbor) (names : List MsapId) → All (Before events x.msap) names → All (IsNewBefore events x) (filter_map (λ name. live name events) names)
  before_all x [] a = All-nil (IsNewBefore events x)
  before_all x (name ∷ names) a = one (live name events) (live-named name events) (before_all x names (All-tail (Before events x.msap) name names a))
    where
      one : (o : Option Neighbor) → ((y : Neighbor) → o ≡ Some y → y.msap ≡ name) → All (IsNewBefore events x) (filter_map (λ n. live n events) names) → All (IsNewBefore events x) (cons_option o (filter_map (λ n. live n events) names))
      one None h r = r
      one (Some y) h r =
          let b : Before events x.msap y.msap = rw (h y refl) (All-head (Before events x.msap) name names a) in
          All-cons (IsNewBefore events x) y (filter_map (λ n. live n events) names) (record { later = b.later; earlier = b.earlier; split = b.split; one_earlier = b.one_earlier; other_later = b.other_later; one_not_later = b.one_not_later }) r

  ordered : (names : List MsapId) → AllPairs (Before events) names → AllPairs (IsNewBefore events) (filter_map (λ name. live name events) names)
  ordered [] p = λ i j d l m. absurd (omega arith)
  ordered (name ∷ names) p = one (live name events) (live-named name events) (ordered names (λ i j d l m. p (suc i) (suc j) d (omega arith) (omega arith)))
    where
      one : (o : Option Neighbor) → ((y : Neighbor) → o ≡ Some y → y.msap ≡ name) → AllPairs (IsNewBefore events) (filter_map (λ n. live n events) names) → AllPairs (IsNewBefore events) (cons_option o (filter_map (λ n. live n events) names))
      one None h r = r
      one (Some y) h r = AllPairs-cons (IsNewBefore events) y (filter_map (λ n. live n events) names) (before_all y names (rw (h y refl) (λ k d l. p 0 (suc k) d (omega arith) (omega arith)))) r

-- the neighbors are in the order in which each was last added
pub neighbors_in_order : (events : List TableEvent) → AllPairs (IsNewBefore events) (neighbors events)
unfolding neighbors
neighbors_in_order events = ordered events (arrivals events) (in_order events)

-- ## Too many neighbors

drop_more : (event : TableEvent) (past : List TableEvent) (left : ℕ) → is_purge event ≡ false → ((later : List TableEvent) → ticks (event ∷ later) ≡ ticks later) → WasDropped past left → WasDropped (event ∷ past) left
drop_more event past left u t h = record {
  later = event ∷ h.later;
  msap = h.msap;
  ttl = h.ttl;
  octets = h.octets;
  earlier = h.earlier;
  split = ap (λ es. event ∷ es) h.split;
  unpurged = (u, h.unpurged);
  counts = ap (λ k. k + left) (t h.later) ∙ h.counts;
}

drop_tick : (n left : ℕ) (past : List TableEvent) → WasDropped past (suc n + left) → WasDropped (ticked ∷ past) (n + left)
drop_tick n left past h = record {
  later = ticked ∷ h.later;
  msap = h.msap;
  ttl = h.ttl;
  octets = h.octets;
  earlier = h.earlier;
  split = ap (λ es. ticked ∷ es) h.split;
  unpurged = (refl, h.unpurged);
  counts = omega (arith, h.counts);
}

-- some dropped frame has exactly the maximum of the remaining ticks
greatest_is : (n : ℕ) (events : List TableEvent) → 0 < most_left n (since is_purge events) → WasDropped events (n + most_left n (since is_purge events))
greatest_is n [] l = absurd (omega arith)
greatest_is n (learned name ttl octets Dropped ∷ past) l =
    let rest : ℕ = most_left n (since is_purge past) in
    elim (cases_lt rest (ttl - n)) [
      | inl w ↦ record { later = []; msap = name; ttl = ttl; octets = octets; earlier = past; split = refl; unpurged = tt; counts = omega arith }
      | inr w ↦
          let same : max (ttl - n) rest ≡ rest = omega arith in
          rw same (drop_more (learned name ttl octets Dropped) past _ refl (λ later. refl) (greatest_is n past (omega arith)))
    ]
greatest_is n (purged ∷ past) l = absurd (omega arith)
greatest_is n (ticked ∷ past) l = drop_tick n _ past (greatest_is (suc n) past l)
greatest_is n (event ∷ past) l = drop_more event past _ refl (λ later. refl) (greatest_is n past l)

-- no dropped frame has more ticks left than the maximum
none_greater : (n left : ℕ) (later earlier : List TableEvent) (name : MsapId) (ttl : ℕ) (octets : List ℕ) → AllByRecursion (λ event. is_purge event ≡ false) later → ticks later + n + left ≡ ttl → left ≤ most_left n (since is_purge (later ++ learned name ttl octets Dropped ∷ earlier))
none_greater n left [] earlier name ttl octets u c = omega arith
none_greater n left (learned other t o Dropped ∷ later) earlier name ttl octets u c = omega (arith, none_greater n left later earlier name ttl octets u.1 c)
none_greater n left (purged ∷ later) earlier name ttl octets u c = cc
none_greater n left (ticked ∷ later) earlier name ttl octets u c = none_greater (suc n) left later earlier name ttl octets u.1 (omega arith)
none_greater n left (event ∷ later) earlier name ttl octets u c = none_greater n left later earlier name ttl octets u.1 c

pub greatest_dropped : (events : List TableEvent) → 0 < too_many_left events → WasDropped events (too_many_left events)
unfolding too_many_left
greatest_dropped events l = let same : 0 + most_left 0 (since is_purge events) ≡ most_left 0 (since is_purge events) = omega arith in rw same at (greatest_is 0 events l)

pub none_dropped_above : (events : List TableEvent) (left : ℕ) → WasDropped events left → left ≤ too_many_left events
unfolding too_many_left
none_dropped_above events left h = grind (arith, common_steps, none_greater)
