use Rattle.std.proofs.Common.{◌≡◌, length, take, drop, map, true}
use Rattle.std.specs.List.{list_all}
use Rattle.lldp_engine.specs.Options.{options_of, is_port_name}
use Rattle.lldp_engine.specs.Code.PortStep.{opened_port}
use Rattle.lldp_engine.proofs.agent.ports.open_ports.Given as goal

-- There is room for all ports; those before this one are open; the names from here on are valid.
abbrev pub invariant-loop-name : goal.invariant-loop-name
invariant-loop-name g l = record {
  ports : l.ports.items ≡ map (opened_port (options_of l.options)) (map (λ n. n.now) (take l.name-index l.options.ports.now));
  room : l.ports.capacity ≡ length l.options.ports.now;
  count : length l.ports.items ≡ l.name-index;
  named : list_all is_port_name (map (λ n. n.now) (drop l.name-index l.options.ports.now)) ≡ true;
}
