use Rattle.lldp_engine.proofs.ForLaws.OnlyForms.{only_its_words, its_words_say_it, only_said, words_are_said, only_given, line_gives, read_by_word, word_is_read}
use Rattle.lldp_engine.proofs.laws.sayings.only_forms_say_commands.Goals as goal

pub returns-clause-said : goal.returns-clause-said
returns-clause-said c = λ agent words command. (only_its_words agent command words, its_words_say_it agent command words)

pub returns-clause-words : goal.returns-clause-words
returns-clause-words c = λ agent words command. (only_said agent words command, words_are_said agent words command)

pub returns-clause-lines : goal.returns-clause-lines
returns-clause-lines c = λ agent line command. (only_given agent line command, line_gives agent line command)

pub returns-clause-statuses : goal.returns-clause-statuses
returns-clause-statuses c = λ word given. (read_by_word word given, word_is_read word given)
