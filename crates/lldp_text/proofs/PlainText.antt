-- Escaping leaves a text of plain octets unchanged.
use Rattle.std.proofs.Common.{◌≡◌, ℕ, ◌==◌, ◌&&◌, Bool, true, false, List, [], ◌∷◌, ◌++◌, refl, ap, ◌∙◌, arith}
use Rattle.std.specs.Prelude.{not, nat_le, if◌then◌else◌, codes}
use Rattle.std.specs.List.{list_all}
use Rattle.hex.specs.Hex.{encode_lower}
use Rattle.lldp_text.specs.Text.{is_plain, escape, escaped}
use Rattle.std.proofs.lemmas.Grind.{common_steps}

one_plain : (c : ℕ) (over under slash : Bool) → (over && (under && not slash)) ≡ true
    → (if slash then codes "\\\\" else if over && under then c ∷ [] else codes "\\x" ++ encode_lower (c ∷ [])) ≡ c ∷ []
one_plain c over under slash h = grind (arith, common_steps)

pub plain_text : (text : List ℕ) → list_all is_plain text ≡ true → escaped text ≡ text
plain_text [] h = refl
plain_text (c ∷ cs) h = first (is_plain c) refl h (plain_text cs)
  where
    first : (b : Bool) → is_plain c ≡ b → (b && list_all is_plain cs) ≡ true → (list_all is_plain cs ≡ true → escaped cs ≡ cs) → escape c ++ escaped cs ≡ c ∷ cs
    first true e h rest = ap (λ x. x ++ escaped cs) (one_plain c (nat_le 32 c) (nat_le c 126) (c == 92) e) ∙ ap (λ x. c ∷ x) (rest h)
    first false e h rest = cc
