-- The numbers that exported functions return.
use Rattle.std.specs.Prelude.{◌≡◌, ℕ, Bool, false, nat_lt, List, [], ◌∷◌, length, Option, Some, None, if◌then◌else◌}
use Rattle.lldp_pdu.specs.Check.{Check}
use Rattle.lldpa_c.specs.declared.answer.TheConstants.{OK}

-- the fault of the first check that fails, or 0 if none fails
abbrev pub answer_of : List (Check ℕ) → ℕ
answer_of [] = OK
answer_of (c ∷ cs) = if c.fails then c.fault else answer_of cs

-- true if there are octets, and they do not fit in a buffer of this size
abbrev pub is_over : ℕ → Option (List ℕ) → Bool
is_over room None = false
is_over room (Some octets) = nat_lt room (length octets)

-- What is told means what was read, if something was read. Otherwise nothing is written.
pub record TellsIf {A B : Type 0} (read : Option B) (meaning : A → B) (told_before : A) (is_read : Bool) (told : A) : Type 0 where
  pub value : (if is_read then Some (meaning told) else None) ≡ read
  pub none : is_read ≡ false → told ≡ told_before
