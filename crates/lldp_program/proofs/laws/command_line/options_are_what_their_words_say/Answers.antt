use Rattle.lldp_program.proofs.ForLaws.CommandLine.{separate_by_colons, spell_addresses, spell_macs}
use Rattle.lldp_program.proofs.laws.command_line.options_are_what_their_words_say.Goals as goal

pub returns-clause-macs : goal.returns-clause-macs
returns-clause-macs c = spell_macs

pub returns-clause-colons : goal.returns-clause-colons
returns-clause-colons c = separate_by_colons

pub returns-clause-addresses : goal.returns-clause-addresses
returns-clause-addresses c = spell_addresses
