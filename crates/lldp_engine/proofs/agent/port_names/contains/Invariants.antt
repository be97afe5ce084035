use Rattle.std.proofs.Common.{◌≡◌, drop, map}
use Rattle.std.specs.List.{list_any}
use Rattle.std.specs.Str.{bytes_eq}
use Rattle.lldp_engine.proofs.agent.port_names.contains.Given as goal

abbrev pub invariant-loop-other : goal.invariant-loop-other
invariant-loop-other l = list_any (λ other. bytes_eq other l.name) (map (λ n. n.now) (drop l.other-index l.names)) ≡ list_any (λ other. bytes_eq other l.name) (map (λ n. n.now) l.names)
