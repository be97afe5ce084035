use Rattle.lldp_table.proofs.Live.Calls.{gone_held, gone_order, gone_number, gone_none}
use Rattle.lldp_table.proofs.laws.gone_neighbors_were_held_and_are_not.Goals as goal

pub returns-clause-held : goal.returns-clause-held
returns-clause-held c = λ opened calls neighbor. gone_held opened calls neighbor

pub returns-clause-order : goal.returns-clause-order
returns-clause-order c = λ opened calls. gone_order opened calls

pub returns-clause-number : goal.returns-clause-number
returns-clause-number c = λ opened calls. gone_number opened calls

pub returns-clause-none : goal.returns-clause-none
returns-clause-none c = λ opened calls call h. gone_none opened calls call h
