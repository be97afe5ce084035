-- A line that is written in parts.
use Rattle.std.proofs.Common.{◌≡◌, ℕ, List, [], ◌∷◌, ◌++◌, append_assoc}
use Rattle.lldp_text.specs.Text.{ended}

pub two_parts : (old mid text new a b : List ℕ) → mid ≡ old ++ a → text ≡ mid ++ b → new ≡ text ++ 10 ∷ [] → new ≡ old ++ ended (a ++ b)
two_parts old mid text new a b h k e = rw (e, k, h) (simp append_assoc)

pub three_parts : (old mid next text new a b c : List ℕ) → mid ≡ old ++ a → next ≡ mid ++ b → text ≡ next ++ c → new ≡ text ++ 10 ∷ [] → new ≡ old ++ ended (a ++ (b ++ c))
three_parts old mid next text new a b c h k l e = rw (e, l, k, h) (simp append_assoc)

-- Appending one part and then another is appending both at once.
pub in_parts : (old mid new a b : List ℕ) → mid ≡ old ++ a → new ≡ mid ++ b → new ≡ old ++ (a ++ b)
in_parts old mid new a b h k = rw (k, h) (append_assoc old a b)
