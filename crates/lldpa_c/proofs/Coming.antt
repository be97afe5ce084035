-- The lines that a buffer contains after a show was written to it.
use Rattle.std.proofs.Common.{◌≡◌, ℕ, zero, suc, ◌+◌, ◌-◌, ◌%◌, ◌^◌, ◌<◌, ◌≤◌, Bool, true, false, List, [], ◌∷◌, ◌++◌, length, take, drop, None, refl, sym, ap, subst, ◌∙◌, append-nil, append_assoc, arith}
use Rattle.std.specs.Prelude.{Option, max, slice_get, nat_le}
use Rattle.std.specs.Option.{option_map}
use Rattle.std.specs.List.{flat_map}
use Rattle.std.proofs.lemmas.Bool.{leb-true, leb-false, le-ltb}
use Rattle.std.proofs.lemmas.List.{length-append, length-drop, drop-drop}
use Rattle.std.proofs.lemmas.Option.{slice_get_past}
use Rattle.std.proofs.Math.Nat.{mod-eq_of_lt}
use Rattle.lldp_engine.specs.Takes.{Takes}
use Rattle.lldp_text.specs.Text.{ended}
use Rattle.lldpa_c.specs.declared.lines.Filling.{Filling}
use Rattle.lldpa_c.specs.Filling.{View, begun, put_if, put_unless, come_all, view, LeavesRest, TakesLine}
use Rattle.lldpa_c.specs.Answer.{is_over}
use Rattle.lldpa_c.specs.Filled.{Fills, IsFull}

-- `r` is `v` with the first `count` lines added: all lines, or as many as fit.
pub record Comes (size : ℕ) (v r : View) (lines : List (List ℕ)) : Type 0 where
  pub count : ℕ
  pub next : r.next ≡ v.next + count
  pub text : r.text ≡ v.text ++ flat_map ended (take count lines)
  pub within : r.used ≤ size
  pub done : r.is_full ≡ false → count ≡ length lines
  pub full : r.is_full ≡ true → IsFull lines count size r.used

-- if the buffer is full, no line is added
come_full : (size : ℕ) (v : View) (lines : List (List ℕ)) → v.is_full ≡ true → come_all size v lines ≡ v
come_full size v [] full = refl
come_full size v (line ∷ lines) full =
    let here : put_unless v.is_full size v (ended line) ≡ v = ap (λ (b : Bool). put_unless b size v (ended line)) full in
    ap (λ (w : View). come_all size w lines) here ∙ come_full size v lines full

none_comes : (size : ℕ) (v : View) → v.used ≤ size → v.is_full ≡ false → Comes size v v []
none_comes size v within room = record {
  count = 0;
  next = omega arith;
  text = sym (append-nil v.text);
  within = within;
  done = λ _. refl;
  full = λ full. absurd cc;
}

-- the first line is added if it fits, and then the others; otherwise no line is added
one_comes : (b : Bool) (size : ℕ) (v : View) (line : List ℕ) (lines : List (List ℕ)) → nat_le (v.used + length (ended line)) size ≡ b
    → v.is_full ≡ false → v.used ≤ size → v.next + length (line ∷ lines) < 2 ^ 32
    → ((w : View) → w.is_full ≡ false → w.used ≤ size → w.next + length lines < 2 ^ 32 → Comes size w (come_all size w lines) lines)
    → Comes size v (come_all size (put_if b v (ended line)) lines) (line ∷ lines)
one_comes true size v line lines is room within few others =
    let text = ended line in
    let w : View = put_if true v text in
    let low : (v.next + 1) % 2 ^ 32 ≡ v.next + 1 = mod-eq_of_lt (omega (arith, few)) in
    let c = others w room (leb-true _ _ is) (omega (arith, low, few)) in
    record {
      count = suc c.count;
      next = omega (arith, c.next, low);
      text = c.text ∙ append_assoc v.text text (flat_map ended (take c.count lines));
      within = c.within;
      done = λ room. ap suc (c.done room);
      full = λ full. let f = c.full full in record { line = f.line; is = f.is; over = f.over };
    }
one_comes false size v line lines is room within few others =
    let w : View = put_if false v (ended line) in
    subst (λ (r : View). Comes size v r (line ∷ lines)) (sym (come_full size w lines refl)) record {
      count = 0;
      next = omega arith;
      text = sym (append-nil v.text);
      within = within;
      done = λ no. absurd cc;
      full = λ _. record { line = line; is = refl; over = omega (arith, leb-false _ _ is, length-append line (10 ∷ [])) };
    }

come_open : (size : ℕ) (lines : List (List ℕ)) (v : View) → v.is_full ≡ false → v.used ≤ size → v.next + length lines < 2 ^ 32 → Comes size v (come_all size v lines) lines
come_open size [] v room within few = none_comes size v within room
come_open size (line ∷ lines) v room within few =
    let text = ended line in
    let here : put_unless v.is_full size v text ≡ put_if (nat_le (v.used + length text) size) v text = ap (λ (b : Bool). put_unless b size v text) room in
    subst (λ (w : View). Comes size v (come_all size w lines) (line ∷ lines)) (sym here) (one_comes _ size v line lines refl room within few (λ w. come_open size lines w))

-- from the initial state, the lines of a show from number `from` on are added
pub all_come : (lines : List (List ℕ)) (from size n : ℕ) (a r : View) → n ≡ size → a ≡ begun from → r ≡ come_all n a (drop from lines) → from < 2 ^ 32 → length lines ≤ 6127808
    → Comes size (begun from) r (drop from lines)
all_come lines from size n a r e b is fits few =
    let v : View = begun from in
    let low : from + length (drop from lines) < 2 ^ 32 = omega (arith, fits, few, length-drop from lines) in
    subst (λ (x : View). Comes size v x (drop from lines)) (sym (is ∙ ap (λ (x : View). come_all n x (drop from lines)) b ∙ ap (λ (m : ℕ). come_all m v (drop from lines)) e))
    (come_open size (drop from lines) v refl (omega arith) low)

-- ---- lines that a sink accepts

pub taken : (size : ℕ) (a b : Filling) (lines : List (List ℕ)) → length a.room.now ≡ size → Takes TakesLine a b lines
    → (view b ≡ come_all size (view a) lines) × (length b.room.now ≡ size) × (b.room.ghost_name ≡ a.room.ghost_name)
unfolding Takes
taken size a b [] e h = (ap view (sym h), ap (λ (f : Filling). length f.room.now) (sym h) ∙ e, ap (λ (f : Filling). f.room.ghost_name) (sym h))
taken size a b (line ∷ lines) e h =
    let t = h.1 in
    let others = taken size h.0 b lines (t.size ∙ e) h.2 in
    (others.0 ∙ ap (λ (v : View). come_all size v lines) (t.view ∙ ap (λ (n : ℕ). put_unless (view a).is_full n (view a) (ended line)) e), others.1, others.2 ∙ t.same)

further : (u k : ℕ) (xs ys : List ℕ) → u ≤ k → drop u xs ≡ drop u ys → drop k xs ≡ drop k ys
further u k xs ys h e =
    let n : u + (k - u) ≡ k = omega arith in
    ap (λ (m : ℕ). drop m xs) (sym n) ∙ sym (drop-drop (k - u) u xs) ∙ ap (drop (k - u)) e ∙ drop-drop (k - u) u ys ∙ ap (λ (m : ℕ). drop m ys) n

-- accepting lines leaves the octets after the used ones unchanged
pub rest_left : (a b : Filling) (lines : List (List ℕ)) → Takes TakesLine a b lines → LeavesRest a b
unfolding Takes
rest_left a b [] h = record { grows = omega (arith, ap (λ (f : Filling). f.used) h); rest = ap (λ (f : Filling). drop b.used f.room.now) (sym h) }
rest_left a b (line ∷ lines) h =
    let t = h.1.rest in
    let others = rest_left h.0 b lines h.2 in
    record { grows = omega (arith, t.grows, others.grows); rest = others.rest ∙ further h.0.used b.used _ _ others.grows t.rest }

pub both_leave : (a b c : Filling) → LeavesRest a b → LeavesRest b c → LeavesRest a c
both_leave a b c f g = record { grows = omega (arith, f.grows, g.grows); rest = g.rest ∙ further b.used c.used _ _ g.grows f.rest }

-- ---- the octets of the lines that were written

get_behind : {X : Type 0} (k n : ℕ) (xs : List X) → slice_get (drop k xs) n ≡ slice_get xs (k + n)
get_behind zero n xs = ap (slice_get xs) (omega arith)
get_behind (suc k) n [] = slice_get_past [] n (omega arith) ∙ sym (slice_get_past [] (suc k + n) (omega arith))
get_behind (suc k) n (x ∷ xs) =
    let there : suc (k + n) ≡ suc k + n = omega arith in
    get_behind k n xs ∙ ap (slice_get (x ∷ xs)) there

pub fills : (lines : List (List ℕ)) (from size : ℕ) (r : View) → Comes size (begun from) r (drop from lines) → Fills lines from r.next r.text
fills lines from size r c = record {
  order = omega (arith, c.next);
  are = c.text ∙ ap (λ (n : ℕ). flat_map ended (take n (drop from lines))) (omega (arith, c.next));
}

pub ends : (lines : List (List ℕ)) (from size : ℕ) (r : View) → Comes size (begun from) r (drop from lines) → r.is_full ≡ false → r.next ≡ max from (length lines)
ends lines from size r c room = omega (arith, c.next, c.done room, length-drop from lines)

pub no_more : (lines : List (List ℕ)) (from : ℕ) → from ≡ max from (length lines) → slice_get lines from ≡ None
no_more lines from e = slice_get_past lines from (omega (arith, e))

pub is_full : (lines : List (List ℕ)) (from size : ℕ) (r : View) → Comes size (begun from) r (drop from lines) → r.is_full ≡ true → IsFull lines r.next size r.used
is_full lines from size r c full =
    let f = c.full full in
    record { line = f.line; is = ap (slice_get lines) c.next ∙ sym (get_behind from c.count lines) ∙ f.is; over = f.over }

-- ---- whether the first line fits

pub none_over : (lines : List (List ℕ)) (from room : ℕ) → slice_get lines from ≡ None → is_over room (option_map ended (slice_get lines from)) ≡ false
none_over lines from room e = rw e refl

first_within : (lines : List (List ℕ)) (n room : ℕ) → 0 < n → length (flat_map ended (take n lines)) ≤ room → is_over room (option_map ended (slice_get lines 0)) ≡ false
first_within [] n room some within = refl
first_within (line ∷ lines) zero room some within = absurd (omega arith)
first_within (line ∷ lines) (suc n) room some within = le-ltb _ _ (omega (arith, length-append (ended line) (flat_map ended (take n lines))))

pub some_within : (lines : List (List ℕ)) (from next room : ℕ) (octets : List ℕ) → Fills lines from next octets → from < next → length octets ≤ room → is_over room (option_map ended (slice_get lines from)) ≡ false
some_within lines from next room octets f more within =
    let here : slice_get (drop from lines) 0 ≡ slice_get lines from = get_behind from 0 lines ∙ ap (slice_get lines) (omega arith) in
    subst (λ (o : Option (List ℕ)). is_over room (option_map ended o) ≡ false) here (first_within (drop from lines) (next - from) room (omega arith) (omega (arith, ap length f.are)))
