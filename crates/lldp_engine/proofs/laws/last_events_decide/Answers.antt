use Rattle.std.proofs.Common.{subst, sym}
use Rattle.lldp_engine.specs.Laws.LastSet.{IsLastStatus, IsLastLink}
use Rattle.lldp_engine.proofs.ForLaws.LastSet.{status_is_last, last_is_status, link_is_last, last_is_link, configuration_is_last}
use Rattle.lldp_engine.proofs.laws.last_events_decide.Goals as goal

pub returns-clause-status : goal.returns-clause-status
returns-clause-status c = λ o i events s. (λ e. subst (IsLastStatus o i events) (sym e) (status_is_last o i events), last_is_status o i events s)

pub returns-clause-link : goal.returns-clause-link
returns-clause-link c = λ o i events up. (λ e. subst (IsLastLink i events) (sym e) (link_is_last o i events), last_is_link o i events up)

pub returns-clause-configuration : goal.returns-clause-configuration
returns-clause-configuration c = configuration_is_last
