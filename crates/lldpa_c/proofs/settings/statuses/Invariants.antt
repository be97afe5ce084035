use Rattle.std.proofs.Common.{◌≡◌, length, map, take, drop, replicate}
use Rattle.lldpa_c.specs.Settings.{status_number}
use Rattle.lldpa_c.proofs.settings.statuses.Given as goal

-- the statuses of the ports so far are written, and the elements after them are 0
abbrev pub invariant-loop-port : goal.invariant-loop-port
invariant-loop-port l = record {
  told : take l.port l.statuses ≡ map (λ port. status_number port.status) (take l.port l.agent.ports);
  others : drop l.port l.statuses ≡ drop l.port (replicate 64 0);
  room : length l.statuses ≡ 64;
}
