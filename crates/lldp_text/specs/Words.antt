-- The words of a command line.
use Rattle.std.specs.Prelude.{◌≡◌, ℕ, ◌<◌, ◌==◌, ◌||◌, ◌&&◌, not, Bool, true, false, if◌then◌else◌, List, [], ◌∷◌, ◌++◌, length, Option, Some, None, IsTrue, ◌⊎◌}
use Rattle.std.specs.List.{AllPass}
use Rattle.std.specs.Option.{option_map}

-- True for a space or a tab, which separate words.
abbrev pub is_separator : ℕ → Bool
is_separator c = c == 32 || c == 9

-- True for the quote `"`.
abbrev pub is_quote : ℕ → Bool
is_quote c = c == 34

-- True for an octet that may be in a quoted word: any except a quote.
abbrev pub is_unquote : ℕ → Bool
is_unquote c = not (is_quote c)

-- True for an octet that may be in an unquoted word: any except a separator or a quote.
abbrev pub is_bare : ℕ → Bool
is_bare c = not (is_separator c) && not (is_quote c)

-- The text spells the word. A nonempty word without separators and quotes may be spelled as it is,
-- and any word without quotes may be spelled between two quotes.
abbrev pub IsSpelling : List ℕ → List ℕ → Type 0
IsSpelling text word =
    ((0 < length word) × AllPass is_bare word × (text ≡ word))
    ⊎ (AllPass is_unquote word × (text ≡ 34 ∷ word ++ 34 ∷ []))

-- True if a word may end before this text: the text is empty or begins with a separator.
abbrev pub may_end_word : List ℕ → Bool
may_end_word [] = true
may_end_word (c ∷ _) = is_separator c

-- True if the text begins with a separator.
abbrev pub begins_gap : List ℕ → Bool
begins_gap [] = false
begins_gap (c ∷ _) = is_separator c

-- True if the text begins with an octet of an unquoted word.
abbrev pub begins_bare : List ℕ → Bool
begins_bare [] = false
begins_bare (c ∷ _) = is_bare c

-- The line has exactly these words: it is only separators (no words), or it is optional separators,
-- a spelling of the first word, and a rest that may follow a word and has the other words.
abbrev pub AreWords : List ℕ → List (List ℕ) → Type 0
AreWords line [] = AllPass is_separator line
AreWords line (word ∷ words) =
    (gap : List ℕ) × (text : List ℕ) × (rest : List ℕ) × AllPass is_separator gap × IsSpelling text word
    × IsTrue (may_end_word rest) × (line ≡ gap ++ text ++ rest) × AreWords rest words

-- The place of a reader in a line: between words, in an unquoted or quoted word (with the octets of
-- the word read so far), or after a closing quote.
pub data Place : Type 0 where
  between : Place
  bare : List ℕ → Place
  quoted : List ℕ → Place
  closed : Place

-- The words that a reader at this place finds in the rest of a line; None if a quote is misplaced.
unfoldable pub words_from : Place → List ℕ → Option (List (List ℕ))
words_from between [] = Some []
words_from (bare word) [] = Some (word ∷ [])
words_from (quoted word) [] = None
words_from closed [] = Some []
words_from between (c ∷ cs) =
    if is_separator c then words_from between cs
    else if is_quote c then words_from (quoted []) cs
    else words_from (bare (c ∷ [])) cs
words_from (bare word) (c ∷ cs) =
    if is_separator c then option_map (λ words. word ∷ words) (words_from between cs)
    else if is_quote c then None
    else words_from (bare (word ++ c ∷ [])) cs
words_from (quoted word) (c ∷ cs) =
    if is_quote c then option_map (λ words. word ∷ words) (words_from closed cs)
    else words_from (quoted (word ++ c ∷ [])) cs
words_from closed (c ∷ cs) = if is_separator c then words_from between cs else None

-- The words of a line; None if a quote is misplaced.
abbrev pub words_of : List ℕ → Option (List (List ℕ))
words_of line = words_from between line
