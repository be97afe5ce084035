use Rattle.lldp_engine.proofs.ForLaws.Whose.{of_another, nothing_leaves}
use Rattle.lldp_engine.proofs.laws.whose.events_of_one_port_leave_the_others.Goals as goal
use Rattle.lldp_engine.specs.Event.{frame, link, set, status}
use Rattle.lldp_engine.specs.Past.{past_of}
use Rattle.lldp_engine.specs.Port.Event as own

pub returns-clause-frame : goal.returns-clause-frame
returns-clause-frame c past port other octets r h = nothing_leaves past (frame port octets) other r (of_another past.options (past_of past other) r (own.frame octets) port other _ h)

pub returns-clause-link : goal.returns-clause-link
returns-clause-link c past port other up r h = nothing_leaves past (link port up) other r (of_another past.options (past_of past other) r (own.link up) port other _ h)

pub returns-clause-status : goal.returns-clause-status
returns-clause-status c past port other given r h = nothing_leaves past (set (status port given)) other r (of_another past.options (past_of past other) r (own.status given) port other _ h)
