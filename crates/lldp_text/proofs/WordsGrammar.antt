-- Reading a line returns exactly the words that the line has by the grammar (`AreWords`).
use Rattle.std.proofs.Common.{◌≡◌, ℕ, Bool, true, false, List, [], ◌∷◌, ◌++◌, Option, Some, refl, ap, sym, ◌∙◌, append-nil, append_assoc, arith, inl, inr, ◌⊎◌}
use Rattle.std.specs.Prelude.{if◌then◌else◌, IsTrue, ◌↔◌}
use Rattle.std.specs.Option.{option_map}
use Rattle.std.specs.List.{AllPass}
use Rattle.std.proofs.lemmas.Bool.Decides.{nat_tests}
use Rattle.std.proofs.lemmas.List.Elements.{All-nil, All-cons}
use Rattle.lldp_text.specs.Words.{is_separator, is_quote, is_bare, is_unquote, may_end_word, Place, between, bare, quoted, closed, words_from, words_of, AreWords}
use Rattle.lldp_text.proofs.WordsReading.{words_of-gap, bare_word, quoted_word, none_read}
use Rattle.std.proofs.lemmas.Grind.{common_steps}

-- if a choice has the value z, the branch that its test selects has the value z
chosen : {A : Type 0} (b : Bool) (x y z : A) → (if b then x else y) ≡ z → ((b ≡ true) × (x ≡ z)) ⊎ ((b ≡ false) × (y ≡ z))
chosen b x y z h = grind (arith, common_steps)

-- if adding the word w to the words in `o` gives `ws`, then `ws` is w followed by those words
mapped : (w : List ℕ) (o : Option (List (List ℕ))) (ws : List (List ℕ)) → option_map (λ words. w ∷ words) o ≡ Some ws → (tail : List (List ℕ)) × (o ≡ Some tail) × (ws ≡ w ∷ tail)
mapped w o ws h = grind (arith, common_steps)

-- one more separator at the front of a line does not change its words
gap_more : (c : ℕ) (line : List ℕ) (ws : List (List ℕ)) → is_separator c ≡ true → AreWords line ws → AreWords (c ∷ line) ws
gap_more c line [] h a = All-cons (λ c. is_separator c ≡ true) c line h a
gap_more c line (w ∷ ws) h a =
    (c ∷ a.0, a.1, a.2, All-cons (λ c. is_separator c ≡ true) c a.0 h a.3, a.4, a.5, ap (λ l. c ∷ l) a.6, a.7)

-- if a line has these words by the grammar, reading the line returns them
pub read_from_spelled : (ws : List (List ℕ)) (line : List ℕ) → AreWords line ws → words_of line ≡ Some ws
read_from_spelled [] line a = rw (← append-nil line, words_of-gap line [] a) none_read
read_from_spelled (w ∷ ws) line a =
    let rest : words_of a.2 ≡ Some ws = read_from_spelled ws a.2 a.7 in
    let front : words_of line ≡ words_of (a.1 ++ a.2) = rw (a.6, append_assoc a.0 a.1 a.2) (words_of-gap a.0 (a.1 ++ a.2) a.3) in
    let here : words_of (a.1 ++ a.2) ≡ option_map (λ words. w ∷ words) (words_of a.2) = elim a.4 [
      | inl s ↦ rw s.2 (bare_word w a.2 s.0 s.1 a.5)
      | inr s ↦ rw (s.1, append_assoc (34 ∷ w) (34 ∷ []) a.2) (quoted_word w a.2 s.0 a.5)
    ] in
    front ∙ here ∙ ap (option_map (λ words. w ∷ words)) rest

-- by the grammar, a reader at this place finds these words in the rest of the line
Spelled : Place → List ℕ → List (List ℕ) → Type 0
Spelled between line ws = AreWords line ws
Spelled (bare v) line ws = (w : List ℕ) × (rest : List ℕ) × (tail : List (List ℕ)) × AllPass is_bare w × (line ≡ w ++ rest) × IsTrue (may_end_word rest) × (ws ≡ (v ++ w) ∷ tail) × AreWords rest tail
Spelled (quoted v) line ws = (w : List ℕ) × (rest : List ℕ) × (tail : List (List ℕ)) × AllPass is_unquote w × (line ≡ w ++ 34 ∷ rest) × IsTrue (may_end_word rest) × (ws ≡ (v ++ w) ∷ tail) × AreWords rest tail
Spelled closed line ws = IsTrue (may_end_word line) × AreWords line ws

is_34 : (c : ℕ) → is_quote c ≡ true → c ≡ 34
is_34 c h = grind (arith, nat_tests)

-- after an opening quote, a reader finds the words of the line that begins with that quote
quoted_front : (c : ℕ) (cs : List ℕ) (ws : List (List ℕ)) → is_quote c ≡ true → Spelled (quoted []) cs ws → AreWords (c ∷ cs) ws
unfolding Spelled
quoted_front c cs ws q i =
    rw i.6 ([], 34 ∷ i.0 ++ 34 ∷ [], i.1, All-nil (λ c. is_separator c ≡ true), inr (i.3, refl), i.5, rw (i.4, is_34 c q, append_assoc (34 ∷ i.0) (34 ∷ []) i.1) refl, i.7)

-- after the first octet of an unquoted word, a reader finds the words of the whole line
bare_front : (c : ℕ) (cs : List ℕ) (ws : List (List ℕ)) → is_separator c ≡ false → is_quote c ≡ false → Spelled (bare (c ∷ [])) cs ws → AreWords (c ∷ cs) ws
unfolding Spelled
bare_front c cs ws s q i =
    let octet : is_bare c ≡ true = rw (s, q) refl in
    rw i.6 ([], c ∷ i.0, i.1, All-nil (λ c. is_separator c ≡ true), inl (omega arith, All-cons (λ c. is_bare c ≡ true) c i.0 octet i.3, refl), i.5, ap (λ l. c ∷ l) i.4, i.7)

-- a reader in a word finds the same words before and after one more octet of that word
bare_more : (c : ℕ) (cs : List ℕ) (v : List ℕ) (ws : List (List ℕ)) → is_separator c ≡ false → is_quote c ≡ false → Spelled (bare (v ++ c ∷ [])) cs ws → Spelled (bare v) (c ∷ cs) ws
unfolding Spelled
bare_more c cs v ws s q i = grind (arith, common_steps, All-cons, append_assoc)

quoted_more : (c : ℕ) (cs : List ℕ) (v : List ℕ) (ws : List (List ℕ)) → is_quote c ≡ false → Spelled (quoted (v ++ c ∷ [])) cs ws → Spelled (quoted v) (c ∷ cs) ws
unfolding Spelled
quoted_more c cs v ws q i = grind (arith, common_steps, All-cons, append_assoc)

spelled_from_read : (line : List ℕ) (p : Place) (ws : List (List ℕ)) → words_from p line ≡ Some ws → Spelled p line ws
unfolding words_from Spelled
spelled_from_read [] between [] h = All-nil (λ c. is_separator c ≡ true)
spelled_from_read [] between (w ∷ ws) h = cc
spelled_from_read [] (bare v) ws h = ([], [], [], All-nil (λ c. is_bare c ≡ true), refl, refl, rw append-nil (cc), All-nil (λ c. is_separator c ≡ true))
spelled_from_read [] (quoted v) ws h = cc
spelled_from_read [] closed [] h = (refl, All-nil (λ c. is_separator c ≡ true))
spelled_from_read [] closed (w ∷ ws) h = cc
spelled_from_read (c ∷ cs) between ws h = elim (chosen (is_separator c) _ _ _ h) [
  | inl s ↦ gap_more c cs ws s.0 (spelled_from_read cs between ws s.1)
  | inr s ↦ elim (chosen (is_quote c) _ _ _ s.1) [
    | inl q ↦ quoted_front c cs ws q.0 (spelled_from_read cs (quoted []) ws q.1)
    | inr q ↦ bare_front c cs ws s.0 q.0 (spelled_from_read cs (bare (c ∷ [])) ws q.1)
  ]
]
spelled_from_read (c ∷ cs) (bare v) ws h = elim (chosen (is_separator c) _ _ _ h) [
  | inl s ↦
      let m = mapped v _ ws s.1 in
      ([], c ∷ cs, m.0, All-nil (λ c. is_bare c ≡ true), refl, s.0, m.2 ∙ ap (λ l. l ∷ m.0) (sym (append-nil v)), gap_more c cs m.0 s.0 (spelled_from_read cs between m.0 m.1))
  | inr s ↦ elim (chosen (is_quote c) _ _ _ s.1) [
    | inl q ↦ cc
    | inr q ↦ bare_more c cs v ws s.0 q.0 (spelled_from_read cs (bare (v ++ c ∷ [])) ws q.1)
  ]
]
spelled_from_read (c ∷ cs) (quoted v) ws h = elim (chosen (is_quote c) _ _ _ h) [
  | inl s ↦
      let m = mapped v _ ws s.1 in
      let i = spelled_from_read cs closed m.0 m.1 in
      ([], cs, m.0, All-nil (λ c. is_unquote c ≡ true), ap (λ q. q ∷ cs) (is_34 c s.0), i.0, m.2 ∙ ap (λ l. l ∷ m.0) (sym (append-nil v)), i.1)
  | inr s ↦ quoted_more c cs v ws s.0 (spelled_from_read cs (quoted (v ++ c ∷ [])) ws s.1)
]
spelled_from_read (c ∷ cs) closed ws h = elim (chosen (is_separator c) _ _ _ h) [
  | inl s ↦ (s.0, gap_more c cs ws s.0 (spelled_from_read cs between ws s.1))
  | inr s ↦ cc
]

pub words_spelled : (line : List ℕ) (ws : List (List ℕ)) → (words_of line ≡ Some ws) ↔ AreWords line ws
unfolding Spelled
words_spelled line ws = (λ h. spelled_from_read line between ws h, read_from_spelled ws line)
