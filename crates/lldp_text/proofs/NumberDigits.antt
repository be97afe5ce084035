-- The value of decimal digits that are read one after another.
use Rattle.std.proofs.Common.{◌≡◌, ℕ, ◌+◌, ◌-◌, ◌*◌, ◌<◌, Bool, true, List, length, get_or, take, min, arith}
use Rattle.std.specs.Prelude.{nat_lt, IsTrue, ◌↔◌}
use Rattle.std.specs.List.{AllPass, list_all}
use Rattle.std.specs.Char.{is_ascii_digit}
use Rattle.std.specs.Str.Parse.{digits_value}
use Rattle.std.proofs.lemmas.Bool.{and_parts}
use Rattle.std.proofs.lemmas.Bool.Decides.{nat_tests}
use Rattle.std.proofs.lemmas.List.Sums.{AllPass-from_list_all, list_all-from_AllPass}
use Rattle.std.proofs.lemmas.Int.Digits.{digits_value_more}
use Rattle.lldp_text.specs.Number.{is_number}
use Rattle.std.proofs.lemmas.Grind.{common_steps}

-- a Boolean that is true exactly if all elements pass is equal to `list_all`
pub list_all-is : {X : Type 0} (p : X → Bool) (xs : List X) (b : Bool) → (IsTrue b ↔ AllPass p xs) → b ≡ list_all p xs
list_all-is p xs b h = grind (arith, common_steps, list_all-from_AllPass)

pub is_number-some : (word : List ℕ) (b : Bool) → 0 < length word → (IsTrue b ↔ AllPass is_ascii_digit word) → b ≡ is_number word
is_number-some word b n h =
    let some : nat_lt 0 (length word) ≡ true = grind (arith, nat_tests) in
    rw some (list_all-is is_ascii_digit word b h)

pub value_more : (ds : List ℕ) (i v d r : ℕ) → is_number ds ≡ true → i < length ds → v ≡ min (digits_value 10 (take i ds)) 65536 → d ≡ get_or ds i 0 - 48 → r ≡ min (v * 10 + d) 65536 → r ≡ min (digits_value 10 (take (i + 1) ds)) 65536
value_more ds i v d r all lt e f g = grind (arith, common_steps, nat_tests, AllPass-from_list_all, and_parts, digits_value_more)
