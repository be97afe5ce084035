use Rattle.std.proofs.Common.{refl}
use Rattle.lldp_engine.specs.declared.port.status.Status.TheVariants.{TxOnly, Disabled}
use Rattle.lldp_engine.proofs.ForLaws.Emptied.{deaf_holds_none}
use Rattle.lldp_engine.proofs.laws.tables.ports_that_cannot_receive_hold_none.Goals as goal

pub returns-clause-tx_only : goal.returns-clause-tx_only
returns-clause-tx_only c = deaf_holds_none TxOnly refl

pub returns-clause-disabled : goal.returns-clause-disabled
returns-clause-disabled c = deaf_holds_none Disabled refl
