-- Numbers among the words of a command.
use Rattle.std.specs.Prelude.{ℕ, ◌<◌, Bool, ◌&&◌, nat_lt, nat_le, if◌then◌else◌, List, length, Result, Ok, Err}
use Rattle.std.specs.List.{list_all, AllPass}
use Rattle.std.specs.Char.{is_ascii_digit}
use Rattle.std.specs.Str.Parse.{digits_value}
use Rattle.lldp_text.specs.declared.fault.CommandFault.{CommandFault}
use Rattle.lldp_text.specs.declared.fault.CommandFault.TheVariants.{Number, Range}

-- True for one or more decimal digits; leading zeros are allowed.
abbrev pub is_number : List ℕ → Bool
is_number word = nat_lt 0 (length word) && list_all is_ascii_digit word

-- The number if it is from `least` to `greatest`, or else the fault Range.
abbrev pub in_range : ℕ → ℕ → ℕ → Result ℕ CommandFault
in_range least greatest n = if nat_le least n && nat_le n greatest then Ok n else Err Range

-- The value of a word of digits, or the fault Range; for any other word the fault Number.
abbrev pub number_of : List ℕ → ℕ → ℕ → Result ℕ CommandFault
number_of word least greatest = if is_number word then in_range least greatest (digits_value 10 word) else Err Number

-- The word has at least one octet, and each octet is a decimal digit.
pub record IsOfDigits (word : List ℕ) : Type 0 where
  pub some : 0 < length word
  pub each : AllPass is_ascii_digit word
