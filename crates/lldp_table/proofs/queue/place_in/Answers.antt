use Rattle.std.proofs.Common.{◌≡◌, arith, nat_eq, false}
use Rattle.std.proofs.lemmas.List.Folds.{list_any_none}
use Rattle.std.proofs.lemmas.List.Elements.{All-from_get_or}
use Rattle.lldp_table.proofs.queue.place_in.Goals as goal

-- `slot` was not found, which contradicts the precondition
pub unreachable-requires : goal.unreachable-requires
unreachable-requires c =
    let none = list_any_none (nat_eq c.args.slot) c.args.slots.now
    (All-from_get_or (λ x. nat_eq c.args.slot x ≡ false) c.args.slots.now 0 (λ i within. let it = c.in-None.ensures i (omega arith) within in grind (arith, it))) in
    grind (arith, none, c.requires)
