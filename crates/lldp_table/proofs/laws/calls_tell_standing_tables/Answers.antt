use Rattle.lldp_table.proofs.Standing.Calls.{stands_open, learn_answers, events-more}
use Rattle.lldp_table.proofs.Live.LastStored.{aged_out-count}
use Rattle.lldp_table.proofs.laws.calls_tell_standing_tables.Goals as goal

pub returns-clause-opened : goal.returns-clause-opened
returns-clause-opened c = stands_open

pub returns-clause-learned : goal.returns-clause-learned
returns-clause-learned c = λ table name opened calls h. learn_answers table opened calls name h

pub returns-clause-event : goal.returns-clause-event
returns-clause-event c = events-more

pub returns-clause-aged : goal.returns-clause-aged
returns-clause-aged c = aged_out-count
