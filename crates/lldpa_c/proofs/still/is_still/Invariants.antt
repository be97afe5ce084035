use Rattle.std.proofs.Common.{take}
use Rattle.std.specs.List.{AllByRecursion}
use Rattle.lldpa_c.specs.Still.{IsStill}
use Rattle.lldpa_c.proofs.still.is_still.Given as goal

-- a tick leaves each port so far as it is
abbrev pub invariant-loop-port : goal.invariant-loop-port
invariant-loop-port l = AllByRecursion IsStill (take l.port l.agent.ports)
