-- The items that C receives, one by one.
use Rattle.std.proofs.Common.{◌≡◌, ℕ, zero, suc, List, [], ◌∷◌, take, Some, ap, ◌∙◌}
use Rattle.std.specs.Prelude.{slice_get}
use Rattle.std.specs.Option.{option_map}
use Rattle.std.proofs.lemmas.Option.{slice_get-map}
use Rattle.lldp_transmit.specs.declared.event.Mark.{Mark}
use Rattle.lldpa_c.specs.declared.marks.LldpaMarks.{LldpaMarks}
use Rattle.lldpa_c.specs.Marks.{numbered, TellsMarks}
use Rattle.lldpa_c.specs.Laws.Passed.{AreItems}

-- what the first n elements have at a place, the list has there
within : {X : Type 0} (xs : List X) (n i : ℕ) (x : X) → slice_get (take n xs) i ≡ Some x → slice_get xs i ≡ Some x
within [] zero i x h = absurd cc
within [] (suc n) i x h = absurd cc
within (y ∷ ys) zero i x h = absurd cc
within (y ∷ ys) (suc n) zero x h = h
within (y ∷ ys) (suc n) (suc i) x h = within ys n i x h

pub are_items : (sent : List (ℕ × Mark)) (told : LldpaMarks) → TellsMarks sent told → AreItems sent told
are_items sent told t = record {
  count = t.count;
  items = λ i port mark h.
      within told.items told.count i _ (ap (λ xs. slice_get xs i) t.items ∙ slice_get-map numbered sent i ∙ ap (option_map numbered) h);
}
