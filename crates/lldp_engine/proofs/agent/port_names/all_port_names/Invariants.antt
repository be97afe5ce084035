use Rattle.std.proofs.Common.{◌≡◌, drop, map}
use Rattle.std.specs.List.{list_all}
use Rattle.lldp_engine.specs.Options.{is_port_name}
use Rattle.lldp_engine.proofs.agent.port_names.all_port_names.Given as goal

abbrev pub invariant-loop-name : goal.invariant-loop-name
invariant-loop-name l = list_all is_port_name (map (λ n. n.now) (drop l.name-index l.names)) ≡ list_all is_port_name (map (λ n. n.now) l.names)
