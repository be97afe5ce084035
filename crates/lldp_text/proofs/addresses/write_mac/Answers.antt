use Rattle.std.proofs.Common.{arith}
use Rattle.lldp_text.proofs.TextJoined.{grown, joined_more}
use Rattle.lldp_text.proofs.addresses.write_mac.Goals as goal
use Rattle.std.proofs.lemmas.Grind.{common_steps}

pub loop-i-preserved : goal.loop-i-preserved
loop-i-preserved g c = grind (arith, common_steps, grown, joined_more)
