use Rattle.std.proofs.Common.{ap, ◌∙◌}
use Rattle.std.specs.Prelude.{List, ℕ, Option, Result, ok_or}
use Rattle.lldp_text.specs.declared.fault.CommandFault.{CommandFault}
use Rattle.lldp_text.specs.declared.fault.CommandFault.TheVariants.{Quote}
use Rattle.lldp_text.specs.Answer.{◌>>=◌}
use Rattle.lldp_engine.specs.Command.{Command}
use Rattle.lldp_engine.specs.Given.{unless_in_use, command_said}
use Rattle.lldp_engine.proofs.ForLaws.FirstFault.{tells_first}
use Rattle.lldp_engine.proofs.laws.sayings.first_faults_are_told.Goals as goal

pub returns-clause-words : goal.returns-clause-words
returns-clause-words c = tells_first

pub returns-clause-lines : goal.returns-clause-lines
returns-clause-lines c = λ agent line words fault split said.
    ap (λ (s : Option (List (List ℕ))). ok_or s Quote >>= command_said agent) split
    ∙ ap (λ (r : Result Command CommandFault). unless_in_use agent.ports r) said

pub returns-clause-quotes : goal.returns-clause-quotes
returns-clause-quotes c = λ agent line split. ap (λ (s : Option (List (List ℕ))). ok_or s Quote >>= command_said agent) split
