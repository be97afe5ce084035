-- The windows of a history, computed with a bucket of credits. For each run that ends now, take its
-- bound less its frames: the bucket holds the least of these numbers.
use Rattle.std.specs.Prelude.{◌≡◌, ℕ, suc, ◌+◌, ◌-◌, ◌≤◌, ◌<◌, Bool, true, false, cond, ◌&&◌, nat_le, min, List, [], ◌∷◌, ◌++◌, map}
use Rattle.std.specs.List.{list_all, fold}
use Rattle.std.proofs.Common.{refl, ap, ap₂, sym, ◌∙◌, arith}
use Rattle.std.proofs.lemmas.Bool.{leb-true, leb-false, le-leb, and_parts, and_from, and_right, false_from_ne_true}
use Rattle.std.proofs.Math.Bool.{and_assoc, and-true}
use Rattle.std.proofs.lemmas.Bool.Decides.{nat_tests}
use Rattle.lldp_transmit.specs.Fronts.{runs, after_first}
use Rattle.lldp_transmit.specs.History.{Settings, History, is_tick}
use Rattle.lldp_transmit.specs.Windows.{IsBounded}
use Rattle.lldp_transmit.specs.Moments.{moment, Moment, ticks, frames, within, open_at, due, with_activity, with_signals, moments, unlabelled}
use Rattle.lldp_transmit.specs.Remaining.{room, credit_left}
use Rattle.std.proofs.lemmas.Grind.{common_steps}

-- 1 if the test passes, else 0
abbrev pub one_if : Bool → ℕ
one_if b = cond b 1 0

-- the bucket: a tick adds one, up to txCreditMax, and a frame removes one
abbrev pub filled : Settings → ℕ → Bool → ℕ
filled s n tick = min s.credit_max (n + one_if tick)

abbrev pub bucket : Settings → List Moment → ℕ
bucket s [] = s.credit_max
bucket s (m ∷ past) = filled s (bucket s past) (is_tick m.cause) - one_if m.sent

-- the bucket held a credit at each frame that was sent
abbrev pub IsPaid : Settings → List Moment → Type 0
IsPaid s [] = Unit {0}
IsPaid s (m ∷ past) = (one_if m.sent ≤ filled s (bucket s past) (is_tick m.cause)) × IsPaid s past

-- every run that ends now stays within its bound with `a` more frames and `b` more ticks
abbrev pub fits : ℕ → ℕ → ℕ → List Moment → Bool
fits max a b [] = true
fits max a b (m ∷ past) =
    nat_le (one_if m.sent + a) (max + b) && fits max (one_if m.sent + a) (one_if (is_tick m.cause) + b) past

pub list_all-map : {X Y : Type 0} (p : Y → Bool) (f : X → Y) (xs : List X) → list_all p (map f xs) ≡ list_all (λ x. p (f x)) xs
list_all-map p f [] = refl
list_all-map p f (x ∷ xs) = ap (λ b. p (f x) && b) (list_all-map p f xs)

-- runs are not empty, so tests that agree on non-empty lists agree on all runs
same_on_runs : {X : Type 0} (p q : List X → Bool) → ((x : X) (xs : List X) → p (x ∷ xs) ≡ q (x ∷ xs)) → (xs : List X) → list_all p (runs xs) ≡ list_all q (runs xs)
same_on_runs p q h [] = refl
same_on_runs p q h (x ∷ xs) = grind (arith, common_steps, ap₂, list_all-map, same_on_runs (λ r. p (x ∷ r)) (λ r. q (x ∷ r)) (λ y ys. h x (y ∷ ys)) xs)

abbrev pub bounded : ℕ → ℕ → ℕ → List Moment → Bool
bounded max a b run = nat_le (frames run + a) (max + b + ticks (after_first run))

pub all_fit : (max a b : ℕ) (ms : List Moment) → list_all (bounded max a b) (runs ms) ≡ fits max a b ms
all_fit max a b [] = refl
all_fit max a b (m ∷ past) =
    let x : ℕ = one_if m.sent in
    let y : ℕ = one_if (is_tick m.cause) in
    ap₂ (λ u v. u && v) (ap₂ nat_le (omega arith) (omega arith))
    (list_all-map (bounded max a b) (λ r. m ∷ r) (runs past)
    ∙ same_on_runs (λ r. bounded max a b (m ∷ r)) (bounded max (x + a) (y + b))
    (λ z zs. ap₂ nat_le (omega arith) (omega arith)) past
    ∙ all_fit max (x + a) (y + b) past)

-- If the bucket and `b` more ticks suffice for `a` more frames, every run has room for them.
pub fits_enough : (s : Settings) (a b : ℕ) (ms : List Moment) → IsPaid s ms → a ≤ bucket s ms + b → fits s.credit_max a b ms ≡ true
fits_enough s a b [] paid h = refl
fits_enough s a b (m ∷ past) paid h = grind (arith, common_steps, and_from, le-leb, fits_enough s (one_if m.sent + a) (one_if (is_tick m.cause) + b) past paid.1 (omega arith))

enough_fits : (s : Settings) (a b : ℕ) (ms : List Moment) → IsPaid s ms → a ≤ s.credit_max + b → fits s.credit_max a b ms ≡ true → a ≤ bucket s ms + b
enough_fits s a b [] paid h f = h
enough_fits s a b (m ∷ past) paid h f =
    let parts = and_parts _ _ f in
    let first : one_if m.sent + a ≤ s.credit_max + b = leb-true _ _ parts.0 in
    let rest : one_if m.sent + a ≤ bucket s past + (one_if (is_tick m.cause) + b) = enough_fits s (one_if m.sent + a) (one_if (is_tick m.cause) + b) past paid.1 (omega arith) parts.1 in
    omega arith

pub within_is : (s : Settings) (ms : List Moment) → list_all (within s) (runs ms) ≡ fits s.credit_max 0 0 ms
within_is s ms = same_on_runs (within s) (bounded s.credit_max 0 0) (λ z zs. ap₂ nat_le (omega arith) (omega arith)) ms ∙ all_fit s.credit_max 0 0 ms

-- A window is open exactly if the bucket, after it is refilled at a tick, is not empty.
pub open_is : (s : Settings) (past : List Moment) (m : Moment) → 1 ≤ s.credit_max → IsPaid s past → open_at s past m ≡ nat_le 1 (filled s (bucket s past) (is_tick m.cause))
open_is s past m most paid = within_is s (record m { sent = true } ∷ past) ∙ go _ refl
  where
    go : (b : Bool) → nat_le 1 (filled s (bucket s past) (is_tick m.cause)) ≡ b → fits s.credit_max 0 0 (record m { sent = true } ∷ past) ≡ nat_le 1 (filled s (bucket s past) (is_tick m.cause))
    go true e =
        let some : 1 ≤ filled s (bucket s past) (is_tick m.cause) = leb-true _ _ e in
        and_from _ _ (le-leb _ _ (omega arith)) (fits_enough s _ _ past paid (omega arith)) ∙ sym e
    go false e =
        let none : filled s (bucket s past) (is_tick m.cause) < 1 = leb-false _ _ e in
        and_right _ _ (false_from_ne_true _ (λ f. let some : 1 ≤ bucket s past + (one_if (is_tick m.cause) + 0) = enough_fits s 1 (one_if (is_tick m.cause) + 0) past paid (omega arith) f in absurd (omega arith))) ∙ sym e

le_min : (c d e : ℕ) → nat_le c (min d e) ≡ (nat_le c d && nat_le c e)
le_min c d e = grind (arith, nat_tests)

-- c is at most the least of d and the numbers f x exactly if it is at most each of them.
least_is : {X : Type 0} (c d : ℕ) (f : X → ℕ) (xs : List X) → nat_le c (fold min d (map f xs)) ≡ (nat_le c d && list_all (λ x. nat_le c (f x)) xs)
least_is c d f [] = sym (and-true (nat_le c d))
least_is c d f (x ∷ xs) = grind (arith, common_steps, le_min, and_assoc, least_is c (min d (f x)) f xs)

-- a run's bound less its frames is at least c + 1 exactly if c + 1 more frames fit
room_is : (s : Settings) (c : ℕ) (run : List Moment) → nat_le (suc c) (room s run) ≡ bounded s.credit_max (suc c) 0 run
room_is s c run = grind (arith, nat_tests)

same_from_below : (x y : ℕ) → ((c : ℕ) → nat_le (suc c) x ≡ nat_le (suc c) y) → x ≡ y
same_from_below x y h = grind (arith, nat_tests, h x, h y)

pub bucket_le : (s : Settings) (ms : List Moment) → bucket s ms ≤ s.credit_max
bucket_le s [] = omega arith
bucket_le s (m ∷ past) = omega arith

has : (s : Settings) (a : ℕ) (ms : List Moment) → IsPaid s ms → (nat_le a s.credit_max && fits s.credit_max a 0 ms) ≡ nat_le a (bucket s ms)
has s a ms paid = grind (arith, common_steps, leb-true, bucket_le, and_from, le-leb, fits_enough, leb-false, false_from_ne_true, and_parts, enough_fits)

-- The credit is the content of the bucket.
pub credit_is : (s : Settings) (ms : List Moment) → IsPaid s ms → credit_left s ms ≡ bucket s ms
credit_is s ms paid = same_from_below _ _ (λ c.
    least_is (suc c) s.credit_max (room s) (runs ms)
    ∙ ap (λ b. nat_le (suc c) s.credit_max && b)
    (same_on_runs (λ r. nat_le (suc c) (room s r)) (bounded s.credit_max (suc c) 0) (λ z zs. room_is s c (z ∷ zs)) ms
    ∙ all_fit s.credit_max (suc c) 0 ms)
    ∙ has s (suc c) ms paid)

-- Every run that ends now is within its bound.
pub all_within : (s : Settings) (ms : List Moment) → IsPaid s ms → list_all (within s) (runs ms) ≡ true
all_within s ms paid = within_is s ms ∙ fits_enough s 0 0 ms paid (omega arith)

-- if a test passes on each list of `runs`, it passes on each front that is not empty
pub run_holds : {X : Type 0} (p : List X → Bool) (x : X) (xs before : List X) → list_all p (runs ((x ∷ xs) ++ before)) ≡ true → p (x ∷ xs) ≡ true
run_holds p x [] before h = (and_parts _ _ h).0
run_holds p x (y ∷ ys) before h =
    run_holds (λ r. p (x ∷ r)) y ys before (sym (list_all-map p (λ r. x ∷ r) (runs ((y ∷ ys) ++ before))) ∙ (and_parts _ _ h).1)

frame_paid : (wanted free : Bool) (n : ℕ) → free ≡ nat_le 1 n → one_if (wanted && free) ≤ n
frame_paid b free n e = grind (arith, nat_tests, leb-true)

pub paid_moments : (s : Settings) (h : History) → 1 ≤ s.credit_max → IsPaid s (moments s h)
unfolding moment
paid_moments s [] most = tt
paid_moments s (e ∷ h) most =
    let paid = paid_moments s h most in
    let m = with_signals s (moments s h) (with_activity s (moments s h) (unlabelled e)) in
    (frame_paid (due (moments s h) m) (open_at s (moments s h) m) _ (open_is s (moments s h) m most paid), paid)

front_bounded : (s : Settings) (h : History) → 1 ≤ s.credit_max → (run before : List Moment) → moments s h ≡ run ++ before → frames run ≤ s.credit_max + ticks (after_first run)
front_bounded s h most [] before e = omega arith
front_bounded s h most (m ∷ run) before e =
    let all : list_all (within s) (runs (moments s h)) ≡ true = all_within s (moments s h) (paid_moments s h most) in
    leb-true _ _ (run_holds (within s) m run before (rw e at all))

-- if newer moments of a history are left out, the rest are the moments of an earlier history
pub earlier : (s : Settings) (h : History) (later rest : List Moment) → moments s h ≡ later ++ rest → (g : History) × (moments s g ≡ rest)
earlier s h [] rest e = (h, e)
earlier s [] (m ∷ later) rest e = cc e
earlier s (x ∷ h) (m ∷ later) rest e = earlier s h later rest (cc)

-- Every run is within its bound.
pub is_bounded : (s : Settings) (h : History) → 1 ≤ s.credit_max → IsBounded s h
is_bounded s h most later run before e = let w = earlier s h later (run ++ before) e in front_bounded s w.0 most run before w.1
