use Rattle.std.proofs.Common.{◌≡◌, drop}
use Rattle.lldp_table.specs.Contents.{sooner}
use Rattle.lldpa_c.specs.Due.{due_on}
use Rattle.lldpa_c.proofs.due.due_on.Given as goal

-- the minimum over the ports so far and the remaining ports is the minimum over all ports
abbrev pub invariant-loop-port : goal.invariant-loop-port
invariant-loop-port l = sooner l.due (due_on (drop l.port l.agent.ports)) ≡ due_on l.agent.ports
