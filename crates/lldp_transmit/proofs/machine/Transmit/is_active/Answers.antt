use Rattle.std.proofs.Common.{ap, ◌∙◌}
use Rattle.lldp_transmit.specs.Standing.{machine_of}
use Rattle.lldp_transmit.proofs.machine.Transmit.is_active.Goals as goal

pub returns-clause-active : goal.returns-clause-active
unfolding machine_of
returns-clause-active c = λ s past k. ap (λ t. t.active) (c.self.view_is ∙ k.is)
