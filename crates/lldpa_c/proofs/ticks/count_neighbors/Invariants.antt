use Rattle.std.proofs.Common.{◌≡◌, ◌+◌, ◌*◌, ◌≤◌, drop}
use Rattle.lldpa_c.specs.Ticks.{held_by}
use Rattle.lldpa_c.proofs.ticks.count_neighbors.Given as goal

-- the neighbors of the ports so far are counted: at most 128 for each of these ports
abbrev pub invariant-loop-port : goal.invariant-loop-port
invariant-loop-port l = record {
  counted : l.count + held_by (drop l.port l.agent.ports) ≡ held_by l.agent.ports;
  few : l.count ≤ 128 * l.port;
}
