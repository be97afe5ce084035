use Rattle.lldp_engine.proofs.ForLaws.Calls.{its_words, allowed}
use Rattle.lldp_engine.proofs.laws.calls.commands_have_their_words.Goals as goal

pub returns-clause-words : goal.returns-clause-words
returns-clause-words c = its_words

pub returns-clause-allowed : goal.returns-clause-allowed
returns-clause-allowed c = allowed
