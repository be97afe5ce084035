-- The text of two lists of items in a row, and the past after them.
use Rattle.std.proofs.Common.{◌≡◌, ℕ, List, [], ◌∷◌, ◌++◌, refl, sym, ap, ◌∙◌, append_assoc}
use Rattle.lldp_engine.specs.Past.{Past}
use Rattle.lldp_program.specs.Trace.Items.{Item, after, after_all, text_of, text_of_all, items_of, items_of_lines}

pub after_all-append : (past : Past) (xs ys : List Item) → after_all past (xs ++ ys) ≡ after_all (after_all past xs) ys
after_all-append past [] ys = refl
after_all-append past (x ∷ xs) ys = after_all-append (after past x) xs ys

pub text_of_all-append : (past : Past) (xs ys : List Item) → text_of_all past (xs ++ ys) ≡ text_of_all past xs ++ text_of_all (after_all past xs) ys
text_of_all-append past [] ys = refl
text_of_all-append past (x ∷ xs) ys =
    ap (λ t. text_of past x ++ t) (text_of_all-append (after past x) xs ys) ∙ sym (append_assoc (text_of past x) (text_of_all (after past x) xs) (text_of_all (after_all (after past x) xs) ys))

pub items_of_lines-append : (past : Past) (ls ms : List (List ℕ)) → items_of_lines past (ls ++ ms) ≡ items_of_lines past ls ++ items_of_lines (after_all past (items_of_lines past ls)) ms
items_of_lines-append past [] ms = refl
items_of_lines-append past (l ∷ ls) ms =
    ap (λ t. items_of past l ++ t) (items_of_lines-append (after_all past (items_of past l)) ls ms)
    ∙ sym (append_assoc (items_of past l) (items_of_lines (after_all past (items_of past l)) ls) (items_of_lines (after_all (after_all past (items_of past l)) (items_of_lines (after_all past (items_of past l)) ls)) ms))
    ∙ ap (λ q. (items_of past l ++ items_of_lines (after_all past (items_of past l)) ls) ++ items_of_lines q ms) (sym (after_all-append past (items_of past l) (items_of_lines (after_all past (items_of past l)) ls)))
