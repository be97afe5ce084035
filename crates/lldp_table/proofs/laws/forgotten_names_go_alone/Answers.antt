use Rattle.lldp_table.proofs.Live.Calls.{forget_held, forget_others}
use Rattle.lldp_table.proofs.laws.forgotten_names_go_alone.Goals as goal

pub returns-clause-held : goal.returns-clause-held
returns-clause-held c = forget_held

pub returns-clause-others : goal.returns-clause-others
returns-clause-others c = forget_others
