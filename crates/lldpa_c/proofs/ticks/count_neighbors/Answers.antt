use Rattle.std.proofs.Common.{◌≡◌, ℕ, suc, ◌+◌, drop, ap, arith}
use Rattle.lldpa_c.specs.Ticks.{held_by}
use Rattle.lldpa_c.proofs.Ticking.{held_more}
use Rattle.lldpa_c.proofs.ticks.count_neighbors.Goals as goal

pub loop-port-preserved : goal.loop-port-preserved
loop-port-preserved c =
    let ports = c.args.agent.now.ports in
    let i = c.loop-port.port in
    let one = held_more ports i c.table.result.now.shown c.table.ensures.value in
    let same : suc i ≡ i + 1 = omega arith in
    let next : held_by (drop (suc i) ports) ≡ held_by (drop (i + 1) ports) = ap (λ (n : ℕ). held_by (drop n ports)) same in
    let s = c.len.ensures.sound in
    record {
      counted = omega (arith, c.loop-port.invariant.counted, one, next, c.len.ensures.value, c.from-count.ensures);
      few = omega (arith, c.loop-port.invariant.few, c.len.ensures.value, c.from-count.ensures, s.few, s.room, s.most);
    }
