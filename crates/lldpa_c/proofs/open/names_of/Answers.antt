use Rattle.std.proofs.Common.{◌≡◌, ◌+◌, ◌<◌, ℕ, min, List, [], ◌∷◌, ◌++◌, length, map, take, get_or, sym, ap, subst, ◌∙◌, arith}
use Rattle.std.specs.Borrow.{Bor}
use Rattle.std.specs.List.{All}
use Rattle.std.specs.Str.{IsUtf8}
use Rattle.std.proofs.lemmas.Grind.{take_at_read}
use Rattle.std.proofs.lemmas.List.{map-append, take_all, take_min}
use Rattle.std.proofs.lemmas.List.Elements.{All-get_or, All-nil, All-cons, All-append}
use Rattle.lldpa_c.specs.declared.options.LldpaText.{LldpaText}
use Rattle.lldpa_c.proofs.open.names_of.Goals as goal

-- the first min(length, 65) names are the first 65 names
first_names : (xs : List LldpaText) (n : ℕ) → n ≡ min (length xs) 65 → take n xs ≡ take 65 xs
first_names xs n e = ap (λ (m : ℕ). take m xs) (e ∙ omega arith) ∙ take_min 65 xs

one_more : (P : LldpaText → Type 0) (xs : List LldpaText) (i : ℕ) (d : LldpaText) → i < length xs → All P (take i xs) → P (get_or xs i d) → All P (take (i + 1) xs)
one_more P xs i d h all here =
    subst (All P) (sym (take_at_read xs i d h).1) (All-append P _ _ all (All-cons P _ [] here (All-nil P)))

pub returns-in-Err-clause-none : goal.returns-in-Err-clause-none
returns-in-Err-clause-none c all =
    let P = λ (text : LldpaText). IsUtf8 text.octets.now in
    let xs = take c.min.result c.args.ports.now in
    let same = first_names c.args.ports.now c.min.result c.min.ensures in
    c.in-Err.ensures.cases.0 (All-get_or P xs c.loop-text.text-index _ c.loop-text-test.true (subst (All P) (sym same) all))

pub loop-text-preserved : goal.loop-text-preserved
loop-text-preserved c =
    let P = λ (text : LldpaText). IsUtf8 text.octets.now in
    let xs = take c.min.result c.args.ports.now in
    let i = c.loop-text.text-index in
    let inv = c.loop-text.invariant in
    let now = λ (name : Bor (List ℕ)). name.now in
    let octets = λ (text : LldpaText). text.octets.now in
    let h = c.loop-text-test.true in (
      ap (map now) c.push.ensures.items
          ∙ map-append now c.loop-text.names.items (c.in-Ok.name ∷ [])
          ∙ ap (λ (os : List (List ℕ)). os ++ c.in-Ok.name.now ∷ []) inv.0
          ∙ ap (λ (o : List ℕ). map octets (take i xs) ++ o ∷ []) c.in-Ok.ensures.cases.0
          ∙ sym (map-append octets (take i xs) (get_or xs i _ ∷ []))
          ∙ ap (map octets) (sym (take_at_read xs i _ h).1),
      one_more P xs i _ h inv.1 c.in-Ok.ensures.cases.1,
    )

pub returns-clause-read : goal.returns-clause-read
returns-clause-read c =
    let P = λ (text : LldpaText). IsUtf8 text.octets.now in
    let xs = take c.min.result c.args.ports.now in
    let same = first_names c.args.ports.now c.min.result c.min.ensures in
    subst (All P) (take_all c.loop-text.text-index xs c.loop-text-test.false ∙ same) c.loop-text.invariant.1
