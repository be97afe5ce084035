-- Functions on results, which are a value or a fault.
use Rattle.std.specs.Prelude.{Result, Ok, Err}

-- applies a function to the value of a result; a fault stays as it is
abbrev pub on_ok : {A B E : Type 0} → (A → B) → Result A E → Result B E
on_ok f (Ok a) = Ok (f a)
on_ok f (Err fault) = Err fault

-- passes the value of a result to the next step; a fault stays as it is
infixl 10 ◌>>=◌
abbrev pub ◌>>=◌ : {A B E : Type 0} → Result A E → (A → Result B E) → Result B E
(Ok a) >>= next = next a
(Err fault) >>= next = Err fault
