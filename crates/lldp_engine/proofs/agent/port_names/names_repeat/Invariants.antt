use Rattle.std.proofs.Common.{◌≡◌, drop, map}
use Rattle.lldp_engine.specs.Options.{has_same}
use Rattle.lldp_engine.proofs.agent.port_names.names_repeat.Given as goal

abbrev pub invariant-loop-i : goal.invariant-loop-i
invariant-loop-i l = has_same (map (λ n. n.now) (drop l.i l.names)) ≡ has_same (map (λ n. n.now) l.names)
