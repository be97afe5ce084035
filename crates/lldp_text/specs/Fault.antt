-- The faults of commands: the line and the number of each.
use Rattle.std.specs.Prelude.{ℕ, List, codes}
use Rattle.lldp_text.specs.declared.fault.CommandFault.{CommandFault}
use Rattle.lldp_text.specs.declared.fault.CommandFault.TheVariants.{Unknown, NoSuchPort, Number, Range, Text, Extra, Quote, InUse}

-- The line that reports a fault, without its line feed.
abbrev pub text_of : CommandFault → List ℕ
text_of Unknown = codes "error: unknown command"
text_of NoSuchPort = codes "error: no such port"
text_of Number = codes "error: not a number"
text_of Range = codes "error: out of range"
text_of Text = codes "error: bad text"
text_of Extra = codes "error: extra word"
text_of Quote = codes "error: bad quote"
text_of InUse = codes "error: too many held"

-- the number of a fault
abbrev pub number_of_fault : CommandFault → ℕ
number_of_fault Unknown = 1
number_of_fault NoSuchPort = 2
number_of_fault Number = 3
number_of_fault Range = 4
number_of_fault Text = 5
number_of_fault Extra = 6
number_of_fault Quote = 7
number_of_fault InUse = 8
