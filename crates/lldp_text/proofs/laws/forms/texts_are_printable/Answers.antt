use Rattle.std.proofs.Common.{◌≡◌, ℕ, ◌≤◌, Bool, true, ◌&&◌, List, [], ◌∷◌, refl, arith}
use Rattle.std.specs.Prelude.{nat_le}
use Rattle.std.specs.List.{AllByRecursion, list_all}
use Rattle.std.proofs.lemmas.Bool.{and_parts, leb-true, le-leb}
use Rattle.lldp_text.proofs.laws.forms.texts_are_printable.Goals as goal
use Rattle.std.proofs.lemmas.Grind.{common_steps}

abbrev within : ℕ → Bool
within c = nat_le 32 c && nat_le c 126

abbrev Within : ℕ → Type 0
Within c = (32 ≤ c) × (c ≤ 126)

each : (text : List ℕ) → list_all within text ≡ true → AllByRecursion Within text
each [] h = tt
each (c ∷ cs) h =
    let p = and_parts (within c) (list_all within cs) h in
    let q = and_parts (nat_le 32 c) (nat_le c 126) p.0 in
    ((leb-true 32 c q.0, leb-true c 126 q.1), each cs p.1)

all : (text : List ℕ) → AllByRecursion Within text → list_all within text ≡ true
all [] h = refl
all (c ∷ cs) h = rw (le-leb 32 c h.0.0, le-leb c 126 h.0.1) (all cs h.1)

pub returns : goal.returns
returns c = grind (arith, common_steps, and_parts, leb-true, each, le-leb, all)
