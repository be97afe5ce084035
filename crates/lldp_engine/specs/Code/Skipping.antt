-- Lines that are skipped, and the sink that takes the lines after them.
use Rattle.std.specs.Prelude.{◌≡◌, ℕ, zero, suc, List}
use Rattle.lldp_engine.specs.declared.show.skip_lines.SkipLines.{SkipLines}

-- The line is skipped if lines are still to be skipped, and otherwise the sink takes it.
abbrev pub TakesAt : {S : Type 0} → (S → S → List ℕ → Type 0) → ℕ → ℕ → S → S → List ℕ → Type 0
TakesAt takes zero left old new line = (left ≡ 0) × takes old new line
TakesAt takes (suc before) left old new line = (left ≡ before) × (new ≡ old)

pub record TakesLater {S : Type 0} (takes : S → S → List ℕ → Type 0) (old new : SkipLines S) (line : List ℕ) : Type 0 where
  pub at : TakesAt takes old.before new.before old.sink.now new.sink.now line
  pub same : new.sink.ghost_name ≡ old.sink.ghost_name
