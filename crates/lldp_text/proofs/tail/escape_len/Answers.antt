use Rattle.std.proofs.Common.{arith}
use Rattle.hex.proofs.HexLemmas.{length-encode_with}
use Rattle.lldp_text.proofs.tail.escape_len.Goals as goal
use Rattle.std.proofs.lemmas.Grind.{common_steps}

pub returns-else-octet-ge32-clause-value : goal.returns-else-octet-ge32-clause-value
returns-else-octet-ge32-clause-value c = grind (arith, common_steps, length-encode_with)
