use Rattle.std.proofs.Common.{List, ℕ, Some, ap, sym, ◌∙◌}
use Rattle.lldp_engine.proofs.agent.Agent.port_name.Goals as goal

pub returns-clause-past : goal.returns-clause-past
returns-clause-past g c = λ past h. c.port.ensures.named past h ∙ ap (λ (x : List ℕ). Some x) (sym c.name.ensures.value)
