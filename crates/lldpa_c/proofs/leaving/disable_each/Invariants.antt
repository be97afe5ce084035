use Rattle.std.proofs.Common.{◌≡◌, ◌≤◌, length}
use Rattle.lldp_engine.specs.Past.{Past}
use Rattle.lldp_engine.specs.Standing.{Stands}
use Rattle.lldpa_c.specs.Leaving.{left, sent_leaving, with_leaving}
use Rattle.lldpa_c.proofs.leaving.disable_each.Given as goal

-- the ports so far are disabled
abbrev pub invariant-loop-port : goal.invariant-loop-port
invariant-loop-port l = record {
  is : l.agent ≡ left l.port l.initial.agent;
  sent : l.sent.items ≡ sent_leaving l.port l.initial.agent;
  few : length l.sent.items ≤ l.port;
  stands : (past : Past) → Stands past l.initial.agent → Stands (with_leaving l.port past) l.agent;
}
