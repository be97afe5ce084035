use Rattle.std.proofs.Common.{ap, ◌∙◌}
use Rattle.lldp_transmit.specs.Standing.{machine_of}
use Rattle.lldp_transmit.proofs.machine.Transmit.is_allowed.Goals as goal

pub returns-clause-allowed : goal.returns-clause-allowed
unfolding machine_of
returns-clause-allowed c = λ s past k. ap (λ t. t.allowed) (c.self.view_is ∙ k.is)
