use Rattle.std.proofs.Common.{◌≡◌, drop}
use Rattle.lldp_engine.specs.AgentState.{fits}
use Rattle.lldp_engine.proofs.agent.ports.all_fit.Given as goal

abbrev pub invariant-loop-port : goal.invariant-loop-port
invariant-loop-port g l = fits (drop l.port-index l.ports) l.most ≡ fits l.ports l.most
