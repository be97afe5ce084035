use Rattle.lldp_program.proofs.ForLaws.OnlyLines.{refuses}
use Rattle.lldp_program.proofs.laws.sayings.lines_say_what_their_words_say.Goals as goal

pub returns-clause-faults : goal.returns-clause-faults
returns-clause-faults c = refuses
