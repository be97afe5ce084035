use Rattle.lldp_engine.proofs.ForLaws.Shows.{takes_all, takes_written, takes_any}
use Rattle.lldp_engine.proofs.laws.shows.sinks_take_each_line.Goals as goal

pub returns-clause-all : goal.returns-clause-all
returns-clause-all c = takes_all

pub returns-clause-written : goal.returns-clause-written
returns-clause-written c = takes_written

pub returns-clause-any : goal.returns-clause-any
returns-clause-any c = takes_any
