use Rattle.lldp_program.proofs.ForLaws.Ends.{refuses_aloud}
use Rattle.lldp_program.proofs.laws.ends.no_fault_ends_the_program_in_silence.Goals as goal

pub returns-clause-refused : goal.returns-clause-refused
returns-clause-refused c = refuses_aloud
