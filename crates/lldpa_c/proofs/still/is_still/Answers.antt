use Rattle.std.proofs.Common.{◌≡◌, ◌+◌, suc, take, subst, arith}
use Rattle.std.specs.List.{AllByRecursion}
use Rattle.lldpa_c.specs.Still.{IsStill}
use Rattle.lldpa_c.proofs.Stillness.{still_more}
use Rattle.lldpa_c.proofs.still.is_still.Goals as goal

pub loop-port-preserved : goal.loop-port-preserved
loop-port-preserved c =
    let ports = c.args.agent.now.ports in
    let same : suc c.loop-port.port ≡ c.loop-port.port + 1 = omega arith in
    subst (λ n. AllByRecursion IsStill (take n ports)) same
    (still_more ports c.loop-port.port c.loop-port.invariant (c.is_port_still.ensures c.if-not-is_port_still.false))
