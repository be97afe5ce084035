use Rattle.std.proofs.Common.{arith}
use Rattle.hex.proofs.HexLemmas.{length-encode_with}
use Rattle.lldp_text.proofs.tail.Tail.len.Goals as goal
use Rattle.std.proofs.lemmas.Grind.{common_steps}

pub returns-in-Hex-clause-value : goal.returns-in-Hex-clause-value
returns-in-Hex-clause-value c = grind (arith, common_steps, length-encode_with)
