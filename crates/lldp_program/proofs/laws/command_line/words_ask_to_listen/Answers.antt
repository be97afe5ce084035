use Rattle.lldp_program.proofs.ForLaws.Listening.{asked_by_words}
use Rattle.lldp_program.proofs.laws.command_line.words_ask_to_listen.Goals as goal

pub returns-clause-words : goal.returns-clause-words
returns-clause-words c = asked_by_words
