use Rattle.lldp_program.proofs.ForLaws.CommandLine.{takes_range}
use Rattle.lldp_program.proofs.laws.command_line.options_are_these_alone.Goals as goal

pub returns-clause-ranges : goal.returns-clause-ranges
returns-clause-ranges c = takes_range
