use Rattle.std.proofs.Common.{arith}
use Rattle.std.proofs.lemmas.Bool.Decides.{nat_tests}
use Rattle.lldp_text.proofs.NumberDigits.{is_number-some}
use Rattle.lldp_text.proofs.numbers.writes_number.Goals as goal

pub returns-then-not-is_empty : goal.returns-then-not-is_empty
returns-then-not-is_empty c =
    is_number-some c.args.word.now c.all_digits.result (grind (arith, nat_tests)) c.all_digits.ensures
