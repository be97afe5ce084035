use Rattle.std.proofs.Common.{◌≡◌, ◌+◌, ◌-◌, length, drop, ap, arith, length-append, length-drop}
use Rattle.std.proofs.lemmas.List.{length-take}
use Rattle.lldp_table.proofs.Ageing.Ticks.{parted_count}
use Rattle.lldp_table.proofs.order.part.Goals as goal
use Rattle.std.proofs.lemmas.Grind.{common_steps}

pub append-requires : goal.append-requires
append-requires c = grind (arith, common_steps, c.deref.ensures.1, parted_count c.args.marks.now c.args.used c.args.order.now.items c.requires)

pub append-requires-2 : goal.append-requires-2
append-requires-2 c =
    let all = c.deref-4.result.now in
    let both : length c.unmarked-parts.result.items + length c.deref-3.result.now ≡ c.args.used =
    grind (arith, common_steps, parted_count c.args.marks.now c.args.used c.args.order.now.items c.requires) in
    omega (arith, both, ap length c.append.ensures, length-append c.unmarked-parts.result.items c.deref-3.result.now, length-take (length all - c.args.used) (drop c.args.used all), length-drop c.args.used all, ap length c.deref-4.ensures.0, c.deref-4.ensures.1, c.requires)
