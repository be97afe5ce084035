use Rattle.std.proofs.Common.{arith}
use Rattle.hex.proofs.HexLemmas.{length-encode_with}
use Rattle.lldp_text.proofs.tail.Tail.write.Goals as goal
use Rattle.std.proofs.lemmas.Grind.{common_steps}

pub encode_digits-requires : goal.encode_digits-requires
encode_digits-requires c = grind (arith, common_steps, length-encode_with)
