use Rattle.std.proofs.Common.{ap, ◌∙◌}
use Rattle.lldp_transmit.specs.Standing.{machine_of}
use Rattle.lldp_transmit.proofs.machine.Transmit.is_up.Goals as goal

pub returns-clause-up : goal.returns-clause-up
unfolding machine_of
returns-clause-up c = λ s past k. ap (λ t. t.up) (c.self.view_is ∙ k.is)
