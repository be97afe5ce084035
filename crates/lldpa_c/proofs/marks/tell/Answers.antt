use Rattle.std.proofs.Common.{◌≡◌, ℕ, ◌+◌, ◌<◌, List, [], ◌∷◌, ◌++◌, length, map, take, get_or, set, refl, sym, ap, ◌∙◌, arith}
use Rattle.std.proofs.lemmas.Grind.{take-set_at, take_at_read}
use Rattle.std.proofs.lemmas.List.{map-append, length-set}
use Rattle.lldp_transmit.specs.declared.event.Mark.{Mark}
use Rattle.lldpa_c.specs.declared.marks.LldpaMark.{LldpaMark}
use Rattle.lldpa_c.specs.Marks.{numbered}
use Rattle.lldpa_c.proofs.marks.tell.Goals as goal

one_more : (items : List LldpaMark) (all : List (ℕ × Mark)) (i : ℕ) (d : ℕ × Mark) → i < length items → i < length all → take i items ≡ map numbered (take i all)
    → take (i + 1) (set items i (numbered (get_or all i d))) ≡ map numbered (take (i + 1) all)
one_more items all i d h k inv =
    take-set_at items i (i + 1) (numbered (get_or all i d)) refl h
    ∙ ap (λ (xs : List LldpaMark). xs ++ numbered (get_or all i d) ∷ []) inv
    ∙ sym (map-append numbered (take i all) (get_or all i d ∷ []))
    ∙ ap (map numbered) (sym (take_at_read all i d k).1)

pub loop-i-preserved : goal.loop-i-preserved
loop-i-preserved c =
    let x = get_or c.as_slice-all.result.now c.loop-i.i _ in
    let within : c.loop-i.i < length c.loop-i.items = omega (arith, c.loop-i-test.true, c.as_slice-all.ensures.fits, c.loop-i.invariant.1) in (
      ap (λ (m : ℕ). take (c.loop-i.i + 1) (set c.loop-i.items c.loop-i.i (record { port = x.0; mark = m }))) c.mark_number.ensures
          ∙ one_more c.loop-i.items c.as_slice-all.result.now c.loop-i.i _ within c.loop-i-test.true c.loop-i.invariant.0,
      length-set c.loop-i.items c.loop-i.i _ ∙ c.loop-i.invariant.1,
    )
