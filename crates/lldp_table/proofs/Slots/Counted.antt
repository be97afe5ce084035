-- If two counted values are equal, their `shown` parts are equal.
use Rattle.std.proofs.Common.{◌≡◌, ap}
use Rattle.lldp_table.specs.Counted.{Counted}

pub shown_is : {X : Type 0} {a b : Counted X} → a ≡ b → a.shown ≡ b.shown
shown_is e = ap (λ (x : Counted _). x.shown) e
