-- Reading the parts of a line one after another.
use Rattle.std.proofs.Common.{◌≡◌, ℕ, ◌<◌, Bool, true, false, not, List, [], ◌∷◌, ◌++◌, length, Option, Some, None, refl, ap, sym, ◌∙◌, append-nil, append_assoc, arith}
use Rattle.std.specs.Prelude.{◌&&◌, MatchResult, MatchOption, IsTrue, IsSomeAnd, Result}
use Rattle.std.specs.Option.{option_map}
use Rattle.std.specs.List.{AllPass, IsFirstAndRest, AllByRecursion as ByRecursion}
use Rattle.std.proofs.lemmas.Bool.{false≢true}
use Rattle.std.proofs.lemmas.List.{nil_from_length}
use Rattle.std.proofs.lemmas.Bool.Decides.{nat_tests}
use Rattle.std.proofs.lemmas.List.Elements.{recursion_from_All}
use Rattle.lldp_text.specs.declared.fault.CommandFault.{CommandFault}
use Rattle.lldp_text.specs.declared.fault.CommandFault.TheVariants.{Quote}
use Rattle.lldp_text.specs.Words.{is_separator, is_quote, is_bare, is_unquote, may_end_word, begins_bare, begins_gap, between, bare, quoted, closed, words_from, words_of}
use Rattle.std.proofs.lemmas.Grind.{common_steps}

-- reading skips the separators before the first word
gap_read : (gap : List ℕ) (rest : List ℕ) → ByRecursion (λ c. is_separator c ≡ true) gap → words_from between (gap ++ rest) ≡ words_from between rest
unfolding words_from
gap_read [] rest h = refl
gap_read (c ∷ gap) rest h = rw h.0 (gap_read gap rest h.1)

pub words_of-gap : (gap : List ℕ) (rest : List ℕ) → AllPass is_separator gap → words_of (gap ++ rest) ≡ words_of rest
words_of-gap gap rest h = gap_read gap rest (recursion_from_All (λ c. is_separator c ≡ true) gap h)

-- an octet of an unquoted word is neither a separator nor a quote
bare_is : (a b : Bool) → (not a && not b ≡ true) → (a ≡ false) × (b ≡ false)
bare_is a b h = grind (arith, common_steps, false≢true)

-- a reader in an unquoted word adds the next octets of the word to those it has read
bare_read : (word : List ℕ) (before : List ℕ) (rest : List ℕ) → ByRecursion (λ c. is_bare c ≡ true) word → words_from (bare before) (word ++ rest) ≡ words_from (bare (before ++ word)) rest
unfolding words_from
bare_read [] before rest h = simp append-nil
bare_read (c ∷ word) before rest h = grind (arith, common_steps, bare_is, append_assoc, bare_read word (before ++ c ∷ []) rest h.1)

-- a reader in a quoted word adds the next octets of the word to those it has read
quoted_read : (word : List ℕ) (before : List ℕ) (rest : List ℕ) → ByRecursion (λ c. is_unquote c ≡ true) word → words_from (quoted before) (word ++ rest) ≡ words_from (quoted (before ++ word)) rest
unfolding words_from
quoted_read [] before rest h = simp append-nil
quoted_read (c ∷ word) before rest h = grind (arith, common_steps, false≢true, append_assoc, quoted_read word (before ++ c ∷ []) rest h.1)

-- an unquoted word ends at a separator or the end of the line
bare_ends : (word rest : List ℕ) → may_end_word rest ≡ true → words_from (bare word) rest ≡ option_map (λ words. word ∷ words) (words_of rest)
unfolding words_from
bare_ends word rest h = grind (arith, common_steps)

-- a quote right after an unquoted word is misplaced
bare_quote : (word rest : List ℕ) → may_end_word rest ≡ false → begins_bare rest ≡ false → words_from (bare word) rest ≡ None
unfolding words_from
bare_quote word rest h k = grind (arith, common_steps, false≢true)

-- reading the first octet of an unquoted word, an opening quote, and a closing quote
bare_begin : (c : ℕ) (rest : List ℕ) → is_separator c ≡ false → is_quote c ≡ false → words_from between (c ∷ rest) ≡ words_from (bare (c ∷ [])) rest
unfolding words_from
bare_begin c rest h k = rw (h, k) refl

quote_begin : (rest : List ℕ) → words_from between (34 ∷ rest) ≡ words_from (quoted []) rest
unfolding words_from
quote_begin rest = refl

quote_end : (word rest : List ℕ) → words_from (quoted word) (34 ∷ rest) ≡ option_map (λ words. word ∷ words) (words_from closed rest)
unfolding words_from
quote_end word rest = refl

quote_open_end : (word : List ℕ) → words_from (quoted word) [] ≡ None
unfolding words_from
quote_open_end word = refl

pub none_read : words_of [] ≡ Some []
unfolding words_from
none_read = refl

-- if a word may end at a closing quote, the rest is read like a line; if not, reading fails
closed_ends : (rest : List ℕ) → may_end_word rest ≡ true → words_from closed rest ≡ words_of rest
unfolding words_from
closed_ends rest h = grind (arith, common_steps)

closed_other : (rest : List ℕ) → may_end_word rest ≡ false → words_from closed rest ≡ None
unfolding words_from
closed_other rest h = grind (arith, common_steps, false≢true)

-- r is right for the line: the first word and the rest, None if no word, or the fault Quote
abbrev pub Answers : {R : Type 0} → (R → List ℕ) → (R → List ℕ) → List ℕ → Result (Option R) CommandFault → Type 0
Answers word rest line r = MatchResult r (λ found. MatchOption found (words_of line ≡ Some []) (λ x. words_of line ≡ option_map (λ words. word x ∷ words) (words_of (rest x)))) (λ fault. (fault ≡ Quote) × (words_of line ≡ None))

-- r is the word w and the rest `after` if a word may end before `after`, else the fault Quote
abbrev pub Ends : {R : Type 0} → (R → List ℕ) → (R → List ℕ) → List ℕ → List ℕ → Result (Option R) CommandFault → Type 0
Ends word rest w after r = MatchResult r (λ found. IsTrue (may_end_word after) × IsSomeAnd found (λ x. (word x ≡ w) × (rest x ≡ after))) (λ fault. (fault ≡ Quote) × (may_end_word after ≡ false))

answered : {R : Type 0} (word rest : R → List ℕ) (r : Result (Option R) CommandFault) (line w after : List ℕ)
    → (may_end_word after ≡ true → words_of line ≡ option_map (λ words. w ∷ words) (words_of after)) → (may_end_word after ≡ false → words_of line ≡ None)
    → Ends word rest w after r → Answers word rest line r
answered word rest r line w after ends other a = grind (arith, common_steps)

-- the result r is right for a line that begins with an unquoted word
pub bare_found : {R : Type 0} (word rest : R → List ℕ) (r : Result (Option R) CommandFault) (line gap text : List ℕ) (first : ℕ) (more w after : List ℕ)
    → AllPass is_separator gap → line ≡ gap ++ text → begins_gap text ≡ false → IsFirstAndRest text first more → (first ≡ 34 → ⊥)
    → AllPass is_bare w → text ≡ w ++ after → begins_bare after ≡ false
    → Ends word rest w after r → Answers word rest line r
bare_found word rest r line gap text first more [] [] g e sep t quo b s n a = let none : first ∷ more ≡ [] = sym t.0 ∙ s in cc
bare_found word rest r line gap text first more [] (c ∷ after) g e sep t quo b s n a = grind (arith, common_steps, nat_tests, false≢true)
bare_found word rest r line gap text first more (c ∷ w) after g e sep t quo b s n a =
    let octets = recursion_from_All (λ c. is_bare c ≡ true) (c ∷ w) b in
    let octet = bare_is (is_separator c) (is_quote c) octets.0 in
    let whole : words_of line ≡ words_from (bare (c ∷ w)) after = rw (e, words_of-gap gap text g, s) (bare_begin c (w ++ after) octet.0 octet.1 ∙ bare_read w (c ∷ []) after octets.1) in
    answered word rest r line (c ∷ w) after (λ h. whole ∙ bare_ends (c ∷ w) after h) (λ h. whole ∙ bare_quote (c ∷ w) after h n) a

-- the result r is right for a line that begins with a quoted word
pub quoted_found : {R : Type 0} (word rest : R → List ℕ) (r : Result (Option R) CommandFault) (line gap text : List ℕ) (first : ℕ) (more w after : List ℕ)
    → AllPass is_separator gap → line ≡ gap ++ text → IsFirstAndRest text first more → first ≡ 34
    → AllPass is_unquote w → more ≡ w ++ 34 ∷ after
    → Ends word rest w after r → Answers word rest line r
quoted_found word rest r line gap text first more w after g e t quo b s a = grind (arith, common_steps, recursion_from_All, words_of-gap, quote_begin, quoted_read, quote_end, answered, closed_ends, closed_other)

-- a line with an unclosed quote cannot be split into words
pub quoted_open : (line gap text : List ℕ) (first : ℕ) (more : List ℕ) → AllPass is_separator gap → line ≡ gap ++ text → IsFirstAndRest text first more → first ≡ 34 → AllPass is_unquote more → words_of line ≡ None
quoted_open line gap text first more g e t quo b =
    let octets = recursion_from_All (λ c. is_unquote c ≡ true) more b in
    rw (e, words_of-gap gap text g, t.0, quo) (quote_begin more ∙ ap (words_from (quoted [])) (sym (append-nil more)) ∙ quoted_read more [] [] octets ∙ quote_open_end more)

-- a line that has only separators has no words
pub no_words : (line gap text : List ℕ) → AllPass is_separator gap → line ≡ gap ++ text → length text ≡ 0 → words_of line ≡ Some []
no_words line gap text g e n = let none = nil_from_length text n in rw (e, none, words_of-gap gap [] g) none_read

-- a line that begins with an unquoted word has that word and the words of the rest
pub bare_word : (word rest : List ℕ) → 0 < length word → AllPass is_bare word → may_end_word rest ≡ true → words_of (word ++ rest) ≡ option_map (λ words. word ∷ words) (words_of rest)
bare_word [] rest n b h = absurd (omega arith)
bare_word (c ∷ w) rest n b h =
    let octets = recursion_from_All (λ c. is_bare c ≡ true) (c ∷ w) b in
    let octet = bare_is (is_separator c) (is_quote c) octets.0 in
    bare_begin c (w ++ rest) octet.0 octet.1 ∙ bare_read w (c ∷ []) rest octets.1 ∙ bare_ends (c ∷ w) rest h

-- a line that begins with a quoted word has that word and the words of the rest
pub quoted_word : (word rest : List ℕ) → AllPass is_unquote word → may_end_word rest ≡ true → words_of (34 ∷ word ++ 34 ∷ rest) ≡ option_map (λ words. word ∷ words) (words_of rest)
quoted_word word rest b h = grind (arith, common_steps, quote_begin, quoted_read, recursion_from_All, quote_end, closed_ends)
