-- The lines that a sink took.
use Rattle.std.specs.Prelude.{◌≡◌, ℕ, List, [], ◌∷◌}

-- The sink took these lines, one after another.
unfoldable pub Takes : {S : Type 0} → (S → S → List ℕ → Type 0) → S → S → List (List ℕ) → Type 0
Takes takes old new [] = old ≡ new
Takes takes old new (line ∷ lines) = (next : _) × takes old next line × Takes takes next new lines
