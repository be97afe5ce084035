use Rattle.lldp_engine.proofs.Lines.Bound.{few_lines}
use Rattle.lldp_engine.proofs.agent.Agent.show_at.Goals as goal

pub returns-else-cursor-eq0-clause-few : goal.returns-else-cursor-eq0-clause-few
returns-else-cursor-eq0-clause-few g c = few_lines c.args.show.now c.args.self.now c.all_ports.ensures.sound
