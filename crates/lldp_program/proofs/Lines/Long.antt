-- All lines over 4,096 octets are refused in the same way, whatever their octets are.
use Rattle.std.proofs.Common.{◌≡◌, ℕ, ◌<◌, true, nat_lt, List, [], ◌∷◌, ◌++◌, length, take, refl, sym, ap, ◌∙◌, inl, inr, arith, length-append, length-take}
use Rattle.std.proofs.lemmas.Bool.{cases_lt, lt-ltb}
use Rattle.std.proofs.lemmas.List.{take_all}
use Rattle.lldp_engine.specs.Past.{Past}
use Rattle.lldp_program.specs.Trace.Forms.{work_given}
use Rattle.lldp_program.specs.Trace.Items.{refused, after_all, items_of, items_of_lines}
use Rattle.lldp_program.specs.declared.line.LineFault.TheVariants.{TooLong}
use Rattle.lldp_program.proofs.Lines.Pieces.{onto_all, pieces-onto, unfinished_no_lf, no_lf-take}
use Rattle.lldp_program.specs.Code.Pieces.{pieces, unfinished, if_any}

pub too_long : (past : Past) (line : List ℕ) → 4096 < length line → items_of past line ≡ refused TooLong ∷ []
unfolding work_given
too_long past line h = let e : nat_lt 4096 (length line) ≡ true = lt-ltb 4096 (length line) h in rw e refl

same_first : (past : Past) (l m : List ℕ) (ls : List (List ℕ)) → items_of past l ≡ items_of past m → items_of_lines past (l ∷ ls) ≡ items_of_lines past (m ∷ ls)
same_first past l m ls e = ap (λ items. items ++ items_of_lines (after_all past items) ls) e

same_onto : (past : Past) (p q : List ℕ) (ls : List (List ℕ)) → 4096 < length p → 4096 < length q → items_of_lines past (onto_all p ls) ≡ items_of_lines past (onto_all q ls)
same_onto past p q [] h k = refl
same_onto past p q (l ∷ ls) h k =
    same_first past (p ++ l) (q ++ l) ls (too_long past (p ++ l) (omega (arith, length-append p l)) ∙ sym (too_long past (q ++ l) (omega (arith, length-append q l))))

-- the next lines ask for the same items if only 4,097 octets of the unfinished line are kept
pub same_items : (past : Past) (xs ys : List ℕ) → items_of_lines past (pieces (take 4097 (unfinished xs) ++ ys)) ≡ items_of_lines past (pieces (unfinished xs ++ ys))
same_items past xs ys =
    let p = unfinished xs in
    let none : pieces p ≡ [] = unfinished_no_lf xs in
    elim (cases_lt 4097 (length p)) [
      | inl lt ↦
          ap (items_of_lines past) (pieces-onto (take 4097 p) ys (no_lf-take 4097 p none))
          ∙ same_onto past (take 4097 p) p (pieces ys) (omega (arith, length-take 4097 p)) (omega arith) ∙ ap (items_of_lines past) (sym (pieces-onto p ys none))
      | inr le ↦ ap (λ t. items_of_lines past (pieces (t ++ ys))) (take_all 4097 p le)
    ]

-- the last line asks for the same items if only its first 4,097 octets are kept
pub same_last : (past : Past) (p : List ℕ) → items_of_lines past (if_any (take 4097 p)) ≡ items_of_lines past (if_any p)
same_last past [] = refl
same_last past (b ∷ p) = elim (cases_lt 4097 (length (b ∷ p))) [
  | inl lt ↦ same_first past (take 4097 (b ∷ p)) (b ∷ p) [] (too_long past (take 4097 (b ∷ p)) (omega (arith, length-take 4097 (b ∷ p))) ∙ sym (too_long past (b ∷ p) (omega arith)))
  | inr le ↦ ap (λ t. items_of_lines past (if_any t)) (take_all 4097 (b ∷ p) le)
]
