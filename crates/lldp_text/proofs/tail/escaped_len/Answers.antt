use Rattle.std.proofs.Common.{arith}
use Rattle.std.proofs.lemmas.Grind.{common_steps}
use Rattle.lldp_text.proofs.PlainText.{plain_text}
use Rattle.lldp_text.proofs.tail.escaped_len.Goals as goal

pub returns-then-are_plain-clause-value : goal.returns-then-are_plain-clause-value
returns-then-are_plain-clause-value c = grind (arith, common_steps, plain_text)
