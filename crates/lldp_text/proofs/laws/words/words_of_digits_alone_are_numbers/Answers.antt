use Rattle.std.proofs.Common.{arith}
use Rattle.std.proofs.lemmas.Bool.Decides.{nat_tests}
use Rattle.std.proofs.lemmas.List.Sums.{list_all-from_AllPass}
use Rattle.std.proofs.lemmas.List.Folds.{list_all-append}
use Rattle.lldp_text.proofs.laws.words.words_of_digits_alone_are_numbers.Goals as goal
use Rattle.std.proofs.lemmas.Grind.{common_steps}

pub returns-clause-within : goal.returns-clause-within
returns-clause-within c = grind (arith, common_steps, list_all-from_AllPass, nat_tests)

pub returns-clause-below : goal.returns-clause-below
returns-clause-below c = grind (arith, common_steps, list_all-from_AllPass, nat_tests)

pub returns-clause-above : goal.returns-clause-above
returns-clause-above c = grind (arith, common_steps, list_all-from_AllPass, nat_tests)

pub returns-clause-others : goal.returns-clause-others
returns-clause-others c = grind (arith, common_steps, list_all-append, nat_tests)
