use Rattle.lldp_engine.proofs.ForLaws.Silent.{ordinary_transmits, may_transmit, has_one, shutdown_leaves, may_not_transmit}
use Rattle.lldp_engine.proofs.laws.sending.ports_send_by_their_status.Goals as goal
use Rattle.lldp_transmit.specs.declared.event.Mark.TheVariants.{Ordinary, Shutdown}
use Rattle.lldp_engine.specs.declared.port.status.Status.TheVariants.{RxAndTx, TxOnly, RxOnly, Disabled}
use Rattle.lldp_engine.specs.Past.{past_of}
use Rattle.lldp_engine.specs.Port.Past.{status_after}
use Rattle.lldp_engine.proofs.ForLaws.Marks.{sent_is}

pub returns-clause-ordinary : goal.returns-clause-ordinary
returns-clause-ordinary c past i h = has_one past i RxAndTx TxOnly (may_transmit (status_after past.options (past_of past i)) (ordinary_transmits past.options (past_of past i) (sent_is past i Ordinary h).2))

pub returns-clause-shutdown : goal.returns-clause-shutdown
returns-clause-shutdown c past i h = has_one past i RxOnly Disabled (may_not_transmit (status_after past.options (past_of past i)) (shutdown_leaves past.options (past_of past i) (sent_is past i Shutdown h).2))
