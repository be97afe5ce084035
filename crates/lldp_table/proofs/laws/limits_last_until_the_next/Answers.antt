use Rattle.lldp_table.proofs.Live.Calls.{limit_is_set, limit_is_opened, set_limit_leaves}
use Rattle.lldp_table.proofs.laws.limits_last_until_the_next.Goals as goal

pub returns-clause-set : goal.returns-clause-set
returns-clause-set c = limit_is_set

pub returns-clause-opened : goal.returns-clause-opened
returns-clause-opened c = limit_is_opened

pub returns-clause-others : goal.returns-clause-others
returns-clause-others c = λ opened limit calls. set_limit_leaves opened calls limit
