use Rattle.lldp_transmit.specs.History.{settings}
use Rattle.lldp_transmit.proofs.Standing.{stands_at_first}
use Rattle.lldp_transmit.proofs.machine.Transmit.new.Goals as goal

pub returns-clause-stands : goal.returns-clause-stands
returns-clause-stands c = stands_at_first (settings c.args.credit_max c.args.fast_init c.args.reinit c.args.allowed) c.requires
