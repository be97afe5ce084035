-- The lines of an input that arrives in pieces.
use Rattle.std.proofs.Common.{◌≡◌, ℕ, suc, ◌+◌, ◌-◌, ◌<◌, ◌≤◌, false, eqb, List, [], ◌∷◌, ◌++◌, length, take, drop, refl, sym, ap, ◌∙◌, inl, inr, arith, Some, None, get_or, length-drop, length-take}
use Rattle.std.proofs.lemmas.Bool.{cases_lt, cases_eq, ne_eqb, eqb-true, eq-eqb}
use Rattle.std.proofs.lemmas.List.{drop-take, get_or-drop, append-nil, take-append-drop, drop_more, drop-drop, get_or-take, take_all, take-take, take-append-le, take_at}
use Rattle.std.proofs.Math.Seq.{take-add}
use Rattle.memchr.specs.Find.{IsFirstByte, IsLastByte, Nowhere, Passes, is_byte}
use Rattle.lldp_program.specs.Code.Plain.{EndsAt}
use Rattle.lldp_program.specs.Code.Pieces.{pieces, unfinished, onto_lines, onto_rest, if_any}
use Rattle.lldp_program.specs.Trace.Lines.{lines_of, ended_lines, onto_first}
use Rattle.std.specs.Prelude.{◌==◌, filter}

pub pieces-other : (b : ℕ) (bs : List ℕ) → (b ≡ 10 → ⊥) → pieces (b ∷ bs) ≡ onto_lines b (pieces bs)
pieces-other b bs ne = let e : eqb b 10 ≡ false = ne_eqb b 10 ne in rw e refl

pub unfinished-other : (b : ℕ) (bs : List ℕ) → (b ≡ 10 → ⊥) → unfinished (b ∷ bs) ≡ onto_rest b (pieces bs) (unfinished bs)
unfinished-other b bs ne = let e : eqb b 10 ≡ false = ne_eqb b 10 ne in rw e refl

lines_step : (b : ℕ) (ls : List (List ℕ)) (r q : List ℕ) → (b ≡ 10 → ⊥) → onto_lines b (ls ++ pieces (r ++ q)) ≡ onto_lines b ls ++ pieces (onto_rest b ls r ++ q)
lines_step b [] r q ne = sym (pieces-other b (r ++ q) ne)
lines_step b (l ∷ ls) r q ne = refl

rest_step : (b : ℕ) (ls : List (List ℕ)) (r q : List ℕ) → (b ≡ 10 → ⊥) → onto_rest b (ls ++ pieces (r ++ q)) (unfinished (r ++ q)) ≡ unfinished (onto_rest b ls r ++ q)
rest_step b [] r q ne = sym (unfinished-other b (r ++ q) ne)
rest_step b (l ∷ ls) r q ne = refl

-- the lines of two pieces: the unfinished line of the first piece continues in the second
pub pieces-append : (xs ys : List ℕ) → pieces (xs ++ ys) ≡ pieces xs ++ pieces (unfinished xs ++ ys)
pieces-append [] ys = refl
pieces-append (b ∷ xs) ys = elim (cases_eq b 10) [
  | inl e ↦ rw e (ap (λ t. [] ∷ t) (pieces-append xs ys))
  | inr ne ↦
      pieces-other b (xs ++ ys) ne ∙ ap (onto_lines b) (pieces-append xs ys) ∙ lines_step b (pieces xs) (unfinished xs) ys ne
      ∙ sym (ap (λ t. t ++ pieces (unfinished (b ∷ xs) ++ ys)) (pieces-other b xs ne) ∙ ap (λ t. onto_lines b (pieces xs) ++ pieces (t ++ ys)) (unfinished-other b xs ne))
]

pub unfinished-append : (xs ys : List ℕ) → unfinished (xs ++ ys) ≡ unfinished (unfinished xs ++ ys)
unfinished-append [] ys = refl
unfinished-append (b ∷ xs) ys = elim (cases_eq b 10) [
  | inl e ↦ rw e (unfinished-append xs ys)
  | inr ne ↦
      unfinished-other b (xs ++ ys) ne ∙ ap (λ t. onto_rest b t (unfinished (xs ++ ys))) (pieces-append xs ys)
      ∙ ap (onto_rest b (pieces xs ++ pieces (unfinished xs ++ ys))) (unfinished-append xs ys)
      ∙ rest_step b (pieces xs) (unfinished xs) ys ne ∙ ap (λ t. unfinished (t ++ ys)) (sym (unfinished-other b xs ne))
]

nil_under : (b : ℕ) (ls : List (List ℕ)) → onto_lines b ls ≡ [] → ls ≡ []
nil_under b [] h = refl
nil_under b (l ∷ ls) h = cc

nil_front : {X : Type 0} (xs ys : List X) → xs ++ ys ≡ [] → xs ≡ []
nil_front [] ys h = refl
nil_front (x ∷ xs) ys h = cc

not_lf : (b : ℕ) (xs : List ℕ) → pieces (b ∷ xs) ≡ [] → b ≡ 10 → ⊥
not_lf b xs h e = let k : [] ∷ pieces xs ≡ [] = ap (λ t. pieces (t ∷ xs)) (sym e) ∙ h in cc

no_lf_tail : (b : ℕ) (xs : List ℕ) → pieces (b ∷ xs) ≡ [] → pieces xs ≡ []
no_lf_tail b xs h = nil_under b _ (sym (pieces-other b xs (not_lf b xs h)) ∙ h)

-- if no line has ended, all octets are the unfinished line
pub no_lf-unfinished : (xs : List ℕ) → pieces xs ≡ [] → unfinished xs ≡ xs
no_lf-unfinished [] h = refl
no_lf-unfinished (b ∷ xs) h =
    let t = no_lf_tail b xs h in
    unfinished-other b xs (not_lf b xs h) ∙ ap (λ ls. onto_rest b ls (unfinished xs)) t ∙ ap (λ t. b ∷ t) (no_lf-unfinished xs t)

rest_no_lf : (b : ℕ) (ls : List (List ℕ)) (r : List ℕ) → (b ≡ 10 → ⊥) → pieces r ≡ [] → pieces (onto_rest b ls r) ≡ []
rest_no_lf b [] r ne h = pieces-other b r ne ∙ ap (onto_lines b) h
rest_no_lf b (l ∷ ls) r ne h = h

-- the unfinished line contains no LF
pub unfinished_no_lf : (xs : List ℕ) → pieces (unfinished xs) ≡ []
unfinished_no_lf [] = refl
unfinished_no_lf (b ∷ xs) = elim (cases_eq b 10) [
  | inl e ↦ rw e (unfinished_no_lf xs)
  | inr ne ↦ ap pieces (unfinished-other b xs ne) ∙ rest_no_lf b (pieces xs) (unfinished xs) ne (unfinished_no_lf xs)
]

-- an LF ends the unfinished line
pub line_ended : (xs ys : List ℕ) → pieces xs ≡ [] → pieces (xs ++ 10 ∷ ys) ≡ xs ∷ pieces ys
line_ended [] ys h = refl
line_ended (b ∷ xs) ys h =
    pieces-other b (xs ++ 10 ∷ ys) (not_lf b xs h) ∙ ap (onto_lines b) (line_ended xs ys (no_lf_tail b xs h))

pub rest_begins : (xs ys : List ℕ) → pieces xs ≡ [] → unfinished (xs ++ 10 ∷ ys) ≡ unfinished ys
rest_begins [] ys h = refl
rest_begins (b ∷ xs) ys h =
    unfinished-other b (xs ++ 10 ∷ ys) (not_lf b xs h)
    ∙ ap (λ ls. onto_rest b ls (unfinished (xs ++ 10 ∷ ys))) (line_ended xs ys (no_lf_tail b xs h)) ∙ rest_begins xs ys (no_lf_tail b xs h)

pub no_lf-append : (xs ys : List ℕ) → pieces xs ≡ [] → pieces ys ≡ [] → pieces (xs ++ ys) ≡ []
no_lf-append [] ys h k = k
no_lf-append (b ∷ xs) ys h k =
    pieces-other b (xs ++ ys) (not_lf b xs h) ∙ ap (onto_lines b) (no_lf-append xs ys (no_lf_tail b xs h) k)

pub no_lf-take : (n : ℕ) (xs : List ℕ) → pieces xs ≡ [] → pieces (take n xs) ≡ []
no_lf-take n xs h = nil_front _ _ (sym (pieces-append (take n xs) (drop n xs)) ∙ ap pieces (take-append-drop n xs) ∙ h)

-- if no LF is found, no line has ended
pub none_found : (xs : List ℕ) → Nowhere (Passes (is_byte 10) xs) 0 (length xs) → pieces xs ≡ []
none_found [] h = refl
none_found (b ∷ xs) h =
    let ne : b ≡ 10 → ⊥ = λ e. h 0 (omega arith) (omega arith) (eq-eqb b 10 e) in
    pieces-other b xs ne ∙ ap (onto_lines b) (none_found xs (λ k low high. h (suc k) (omega arith) (omega arith)))

-- if the first LF is at k, no line ends before k
pub none_before : (xs : List ℕ) (k : ℕ) → k < length xs → Nowhere (Passes (is_byte 10) xs) 0 k → pieces (take k xs) ≡ []
none_before xs k within h =
    none_found (take k xs) (λ j low high. let lt : j < k = omega (arith, length-take k xs) in λ found. h j low lt (rw (get_or-take k xs j 0 lt) at found))

-- if LF is found, the first line ends there
pub found_ends : (xs : List ℕ) (end : ℕ) → IsFirstByte (is_byte 10) xs (Some end) → EndsAt xs end
found_ends xs end found = record { within = found.0.high; line_feed = eqb-true _ _ found.1; clear = none_before xs end found.0.high found.0.before }

-- a line that ends within the first n octets also ends in these octets
pub ends_within : (xs : List ℕ) (end n : ℕ) → EndsAt xs end → end < n → EndsAt (take n xs) end
ends_within xs end n e h = record {
  within = omega (arith, e.within, length-take n xs);
  line_feed = get_or-take n xs end 0 h ∙ e.line_feed;
  clear = ap pieces (take-take end n xs (omega arith)) ∙ e.clear;
}

pub line_and_rest : (xs : List ℕ) (end : ℕ) → EndsAt xs end → xs ≡ take end xs ++ 10 ∷ drop (end + 1) xs
line_and_rest xs end e = sym (take-append-drop end xs) ∙ ap (λ t. take end xs ++ t) (drop_more xs end 0 e.within ∙ ap (λ b. b ∷ drop (end + 1) xs) e.line_feed)

-- the line that ends there is the first one
pub first_line : (xs : List ℕ) (end : ℕ) → EndsAt xs end → pieces xs ≡ take end xs ∷ pieces (drop (end + 1) xs)
first_line xs end e = ap pieces (line_and_rest xs end e) ∙ line_ended (take end xs) (drop (end + 1) xs) e.clear

-- exactly one line ends from `start` to `next`
pub record OneMore (xs : List ℕ) (start next : ℕ) : Type 0 where
  pub lines : pieces (take next xs) ≡ pieces (take start xs) ++ take 1 (pieces (drop start xs))
  pub whole : unfinished (take next xs) ≡ []

pub one_more_line : (xs : List ℕ) (start end : ℕ) → unfinished (take start xs) ≡ [] → EndsAt (drop start xs) end → OneMore xs start (start + (end + 1))
one_more_line xs start end whole e =
    let ys = drop start xs in
    let line = take end ys in
    let taken : take (end + 1) ys ≡ line ++ 10 ∷ [] =
    take-add end 1 ys ∙ ap (λ t. line ++ take 1 t) (drop_more ys end 0 e.within ∙ ap (λ b. b ∷ drop (end + 1) ys) e.line_feed) in
    let front : take (start + (end + 1)) xs ≡ take start xs ++ (line ++ 10 ∷ []) = take-add start (end + 1) xs ∙ ap (λ t. take start xs ++ t) taken in
    record {
      lines =
          ap pieces front ∙ pieces-append (take start xs) (line ++ 10 ∷ [])
          ∙ ap (λ t. pieces (take start xs) ++ pieces (t ++ (line ++ 10 ∷ []))) whole
          ∙ ap (λ t. pieces (take start xs) ++ t) (line_ended line [] e.clear ∙ sym (ap (take 1) (first_line ys end e)));
      whole =
          ap unfinished front ∙ unfinished-append (take start xs) (line ++ 10 ∷ []) ∙ ap (λ t. unfinished (t ++ (line ++ 10 ∷ []))) whole ∙ rest_begins line [] e.clear;
    }

-- what is left of the first octets is the front of what is left
pub front_left : (xs : List ℕ) (start held : ℕ) → start ≤ held → take (held - start) (drop start xs) ≡ drop start (take held xs)
front_left xs start held order =
    let whole : start + (held - start) ≡ held = omega arith in
    sym (drop-take start (held - start) xs) ∙ ap (λ k. drop start (take k xs)) whole

-- the lines that ended before `start`, and those after it
pub lines_split : (xs : List ℕ) (start : ℕ) → unfinished (take start xs) ≡ [] → pieces xs ≡ pieces (take start xs) ++ pieces (drop start xs)
lines_split xs start whole =
    ap pieces (sym (take-append-drop start xs)) ∙ pieces-append (take start xs) (drop start xs) ∙ ap (λ t. pieces (take start xs) ++ pieces (t ++ drop start xs)) whole

-- if no further LF is found, no further line ends
pub no_lf_left : (xs : List ℕ) (start from : ℕ) → start ≤ from → pieces (take (from - start) (drop start xs)) ≡ [] → IsFirstByte (is_byte 10) (drop from xs) None → pieces (drop start xs) ≡ []
no_lf_left xs start from low none found =
    let back : start + (from - start) ≡ from = omega arith in
    let split : drop start xs ≡ take (from - start) (drop start xs) ++ drop from xs =
    sym (take-append-drop (from - start) (drop start xs)) ∙ ap (λ t. take (from - start) (drop start xs) ++ t) (drop-drop (from - start) start xs ∙ ap (λ k. drop k xs) back) in
    ap pieces split ∙ no_lf-append (take (from - start) (drop start xs)) (drop from xs) none (none_found (drop from xs) found)

-- no line ends after the last LF
pub none_behind : (xs : List ℕ) (from last start : ℕ) → IsLastByte (is_byte 10) (drop from xs) (Some last) → from + last < start → pieces (drop start xs) ≡ []
none_behind xs from last start found far =
    none_found (drop start xs) (λ k low high here.
    let place : from + (start + k - from) ≡ start + k = omega arith in
    let same : get_or (drop start xs) k 0 ≡ get_or (drop from xs) (start + k - from) 0 =
    get_or-drop start xs k 0 ∙ ap (λ j. get_or xs j 0) (sym place) ∙ sym (get_or-drop from xs (start + k - from) 0) in
    found.0.after (start + k - from) (omega arith) (omega (arith, length-drop from xs, length-drop start xs)) (rw same at here))

pub all_lines : (xs : List ℕ) (start : ℕ) → unfinished (take start xs) ≡ [] → pieces (drop start xs) ≡ [] → pieces xs ≡ pieces (take start xs)
all_lines xs start whole none = lines_split xs start whole ∙ ap (λ t. pieces (take start xs) ++ t) none ∙ append-nil (pieces (take start xs))

pub the_rest : (xs : List ℕ) (start : ℕ) → unfinished (take start xs) ≡ [] → pieces (drop start xs) ≡ [] → unfinished xs ≡ drop start xs
the_rest xs start whole none =
    ap unfinished (sym (take-append-drop start xs)) ∙ unfinished-append (take start xs) (drop start xs) ∙ ap (λ t. unfinished (t ++ drop start xs)) whole ∙ no_lf-unfinished (drop start xs) none

-- puts an unfinished line at the front of the first of these lines
abbrev pub onto_all : List ℕ → List (List ℕ) → List (List ℕ)
onto_all p [] = []
onto_all p (l ∷ ls) = (p ++ l) ∷ ls

abbrev pub rest_all : List ℕ → List (List ℕ) → List ℕ → List ℕ
rest_all p [] r = p ++ r
rest_all p (l ∷ ls) r = r

onto_lines-onto_all : (b : ℕ) (p : List ℕ) (ls : List (List ℕ)) → onto_lines b (onto_all p ls) ≡ onto_all (b ∷ p) ls
onto_lines-onto_all b p [] = refl
onto_lines-onto_all b p (l ∷ ls) = refl

onto_rest-rest_all : (b : ℕ) (p : List ℕ) (ls : List (List ℕ)) (r : List ℕ) → onto_rest b (onto_all p ls) (rest_all p ls r) ≡ rest_all (b ∷ p) ls r
onto_rest-rest_all b p [] r = refl
onto_rest-rest_all b p (l ∷ ls) r = refl

onto_all-nil : (ls : List (List ℕ)) → onto_all [] ls ≡ ls
onto_all-nil [] = refl
onto_all-nil (l ∷ ls) = refl

rest_all-nil : (ls : List (List ℕ)) (r : List ℕ) → rest_all [] ls r ≡ r
rest_all-nil [] r = refl
rest_all-nil (l ∷ ls) r = refl

pub pieces-onto : (p q : List ℕ) → pieces p ≡ [] → pieces (p ++ q) ≡ onto_all p (pieces q)
pieces-onto [] q h = sym (onto_all-nil (pieces q))
pieces-onto (b ∷ p) q h =
    pieces-other b (p ++ q) (not_lf b p h) ∙ ap (onto_lines b) (pieces-onto p q (no_lf_tail b p h)) ∙ onto_lines-onto_all b p (pieces q)

pub unfinished-onto : (p q : List ℕ) → pieces p ≡ [] → unfinished (p ++ q) ≡ rest_all p (pieces q) (unfinished q)
unfinished-onto [] q h = sym (rest_all-nil (pieces q) (unfinished q))
unfinished-onto (b ∷ p) q h =
    unfinished-other b (p ++ q) (not_lf b p h) ∙ ap (λ ls. onto_rest b ls (unfinished (p ++ q))) (pieces-onto p q (no_lf_tail b p h))
    ∙ ap (onto_rest b (onto_all p (pieces q))) (unfinished-onto p q (no_lf_tail b p h)) ∙ onto_rest-rest_all b p (pieces q) (unfinished q)

take_front : (n : ℕ) (p r : List ℕ) → take n (take n p ++ r) ≡ take n (p ++ r)
take_front n p r = elim (cases_lt (length p) n) [
  | inl lt ↦ ap (λ t. take n (t ++ r)) (take_all n p (omega arith))
  | inr le ↦ take-append-le n (take n p) r (omega (arith, length-take n p)) ∙ take-take n n p (omega arith) ∙ sym (take-append-le n p r le)
]

take_rest_all : (n : ℕ) (p : List ℕ) (ls : List (List ℕ)) (r : List ℕ) → take n (rest_all (take n p) ls r) ≡ take n (rest_all p ls r)
take_rest_all n p [] r = take_front n p r
take_rest_all n p (l ∷ ls) r = refl

-- If only n octets of the unfinished line are kept before ys is appended, the new unfinished line
-- has the same first n octets as if all had been kept.
pub held_more : (n : ℕ) (xs ys : List ℕ) → take n (unfinished (take n (unfinished xs) ++ ys)) ≡ take n (unfinished (xs ++ ys))
held_more n xs ys =
    let p = unfinished xs in
    let none : pieces p ≡ [] = unfinished_no_lf xs in
    ap (take n) (unfinished-onto (take n p) ys (no_lf-take n p none)) ∙ take_rest_all n p (pieces ys) (unfinished ys)
    ∙ ap (take n) (sym (unfinished-onto p ys none)) ∙ ap (take n) (sym (unfinished-append xs ys))

-- there is no last line if no octet follows the last LF
pub no_last_line : (rest : List ℕ) → length rest ≡ 0 → if_any rest ≡ []
no_last_line [] e = refl
no_last_line (octet ∷ octets) e = absurd (omega (arith, e))

-- ## The lines of the definitions

lines_of-other : (b : ℕ) (bs : List ℕ) → (b ≡ 10 → ⊥) → lines_of (b ∷ bs) ≡ onto_first b (lines_of bs)
lines_of-other b bs ne = let e : eqb b 10 ≡ false = ne_eqb b 10 ne in rw e refl

onto_front : (b : ℕ) (ls : List (List ℕ)) (r : List ℕ) → onto_first b (ls ++ if_any r) ≡ onto_lines b ls ++ if_any (onto_rest b ls r)
onto_front b [] [] = refl
onto_front b [] (c ∷ r) = refl
onto_front b (l ∷ ls) r = refl

pub lines_are : (xs : List ℕ) → lines_of xs ≡ pieces xs ++ if_any (unfinished xs)
lines_are [] = refl
lines_are (b ∷ xs) = elim (cases_eq b 10) [
  | inl e ↦ rw e (ap (λ t. [] ∷ t) (lines_are xs))
  | inr ne ↦
      lines_of-other b xs ne ∙ ap (onto_first b) (lines_are xs) ∙ onto_front b (pieces xs) (unfinished xs)
      ∙ sym (ap (λ t. t ++ if_any (unfinished (b ∷ xs))) (pieces-other b xs ne) ∙ ap (λ t. onto_lines b (pieces xs) ++ if_any t) (unfinished-other b xs ne))
]

length-onto_lines : (b : ℕ) (ls : List (List ℕ)) → length (onto_lines b ls) ≡ length ls
length-onto_lines b [] = refl
length-onto_lines b (l ∷ ls) = refl

one_for_each : (xs : List ℕ) → length (filter (λ octet. octet == 10) xs) ≡ length (pieces xs)
one_for_each [] = refl
one_for_each (b ∷ xs) = elim (cases_eq b 10) [
  | inl e ↦ rw e (ap suc (one_for_each xs))
  | inr ne ↦
      let e : eqb b 10 ≡ false = ne_eqb b 10 ne in
      rw e (one_for_each xs ∙ sym (length-onto_lines b (pieces xs)))
]

pub ended_are : (xs : List ℕ) → ended_lines xs ≡ pieces xs
ended_are xs = rw (one_for_each xs, lines_are xs) (take_at (pieces xs) (if_any (unfinished xs)) (length (pieces xs)) refl)
