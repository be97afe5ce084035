use Rattle.lldp_table.proofs.Live.Calls.{tick_held, tick_timer, tick_limit}
use Rattle.lldp_table.proofs.laws.ticks_take_expired_neighbors_alone.Goals as goal

pub returns-clause-held : goal.returns-clause-held
returns-clause-held c = tick_held

pub returns-clause-timer : goal.returns-clause-timer
returns-clause-timer c = tick_timer

pub returns-clause-limit : goal.returns-clause-limit
returns-clause-limit c = tick_limit
