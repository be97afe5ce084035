use Rattle.std.proofs.Common.{ℕ, List, [], ◌∷◌, refl}
use Rattle.lldp_text.proofs.Lanes.{turns_are}
use Rattle.lldp_text.proofs.digits.by_turns.Goals as goal

-- the places that take the lanes of two vectors alternately, a lane of the first vector first
abbrev places : List ℕ
places = 0 ∷ 16 ∷ 1 ∷ 17 ∷ 2 ∷ 18 ∷ 3 ∷ 19 ∷ 4 ∷ 20 ∷ 5 ∷ 21 ∷ 6 ∷ 22 ∷ 7 ∷ 23 ∷ 8 ∷ 24 ∷ 9 ∷ 25 ∷ 10 ∷ 26 ∷ 11 ∷ 27 ∷ 12 ∷ 28 ∷ 13 ∷ 29 ∷ 14 ∷ 30 ∷ 15 ∷ 31 ∷ []

pub returns-clause-turns : goal.returns-clause-turns
returns-clause-turns c = turns_are places c.args.first c.args.second refl c.fits-first.0 refl
