-- The greatest numbers of a port's settings. A law ties the constants of the code to these.
use Rattle.std.specs.Prelude.{ℕ}

-- the greatest txCreditMax
abbrev pub most_credit_max : ℕ
most_credit_max = 10

-- the greatest txFastInit
abbrev pub most_fast_init : ℕ
most_fast_init = 8

-- the greatest reinitDelay, in seconds
abbrev pub most_reinit : ℕ
most_reinit = 10
