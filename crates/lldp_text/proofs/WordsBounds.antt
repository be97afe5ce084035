-- No word is longer than its line, and a line without quotes can be split into words.
use Rattle.std.proofs.Common.{◌≡◌, ℕ, ◌+◌, ◌≤◌, true, false, List, [], ◌∷◌, ◌++◌, length, Option, is_some, refl, ap, arith, suc, length-append}
use Rattle.std.specs.Prelude.{unwrap_or}
use Rattle.std.specs.Option.{option_map}
use Rattle.std.specs.List.{AllByRecursion as ByRecursion}
use Rattle.std.proofs.lemmas.Bool.{cases_Bool, false_from_ne_true, false≢true}
use Rattle.memchr.specs.Find.{IsFirstByte, Nowhere, Passes, is_byte}
use Rattle.lldp_text.specs.Words.{is_quote, between, bare, words_from, words_of, AreWords, IsSpelling}
use Rattle.lldp_text.proofs.WordsGrammar.{words_spelled}
use Rattle.std.proofs.lemmas.Grind.{common_steps}

-- a word is no longer than its spelling
length-spelling : (text word : List ℕ) → IsSpelling text word → length word ≤ length text
length-spelling text word s = grind (arith, common_steps, length-append)

longer : (m n : ℕ) (words : List (List ℕ)) → m ≤ n → ByRecursion (λ w. length w ≤ m) words → ByRecursion (λ w. length w ≤ n) words
longer m n [] h short = short
longer m n (w ∷ words) h short = (omega (arith, short.0), longer m n words h short.1)

spelled_short : (words : List (List ℕ)) (line : List ℕ) → AreWords line words → ByRecursion (λ w. length w ≤ length line) words
spelled_short [] line a = tt
spelled_short (w ∷ words) line a =
    let whole : length line ≡ length a.0 + length a.1 + length a.2 = omega (arith, ap length a.6, length-append (a.0 ++ a.1) a.2, length-append a.0 a.1) in
    (omega (arith, length-spelling a.1 w a.4), longer (length a.2) (length line) words (omega arith) (spelled_short words a.2 a.7))

spelled_or_none : (line : List ℕ) (o : Option (List (List ℕ))) → words_of line ≡ o → ByRecursion (λ w. length w ≤ length line) (unwrap_or o [])
spelled_or_none line o e = grind (arith, common_steps, spelled_short, words_spelled)

pub words_left-short : (line : List ℕ) → ByRecursion (λ w. length w ≤ length line) (unwrap_or (words_of line) [])
words_left-short line = spelled_or_none line (words_of line) refl

is_some-mapped : (w : List ℕ) (o : Option (List (List ℕ))) → is_some (option_map (λ words. w ∷ words) o) ≡ is_some o
is_some-mapped w o = grind (arith, common_steps)

-- if no octet is a quote, a reader between words or in an unquoted word finds no misplaced quote
unquoted : (line : List ℕ) → ByRecursion (λ c. is_quote c ≡ false) line → (is_some (words_from between line) ≡ true) × ((w : List ℕ) → is_some (words_from (bare w) line) ≡ true)
unfolding words_from
unquoted [] h = (refl, λ w. refl)
unquoted (c ∷ cs) h = grind (arith, common_steps, cases_Bool, is_some-mapped, unquoted cs h.1)

no_quote : (line : List ℕ) → Nowhere (Passes (is_byte 34) line) 0 (length line) → ByRecursion (λ c. is_quote c ≡ false) line
no_quote [] h = tt
no_quote (c ∷ cs) h =
    (false_from_ne_true (is_quote c) (λ e. h 0 (omega arith) (omega arith) e), no_quote cs (λ k low high. h (suc k) (omega arith) (omega arith)))

pub words_of-unquoted : (line : List ℕ) (found : Option ℕ) → IsFirstByte (is_byte 34) line found → is_some found ≡ false → is_some (words_of line) ≡ true
words_of-unquoted line found h none = grind (arith, common_steps, unquoted, no_quote, false≢true)
