use Rattle.std.proofs.Common.{[], refl, sym, subst, arith}
use Rattle.lldp_table.specs.Contents.{Contents}
use Rattle.lldp_table.specs.Standing.{Stands}
use Rattle.lldp_table.proofs.Slots.Learned.{open_table}
use Rattle.lldp_table.proofs.Slots.Search.{tagged_none}
use Rattle.lldp_table.proofs.Standing.Calls.{stands_open}
use Rattle.lldp_table.proofs.table.Table.open.Goals as goal
use Rattle.std.proofs.lemmas.Grind.{common_steps}

pub invariant_of-result : goal.invariant_of-result
invariant_of-result g c =
    let room = c.in_ok-open.ensures in
    record {
      table = open_table c.in_ok-open.field-0.capacity c.in_ok-open.field-0.items c.new-2.result.shown c.new.result.items c.args.limit (omega (arith, room.capacity)) room.items c.new-2.ensures c.new.ensures c.requires.least c.requires.most;
      tagged = tagged_none _ c.in_ok-open.field-0.items refl room.items;
    }

pub returns-clause-empty : goal.returns-clause-empty
returns-clause-empty g c = grind (arith, common_steps)

pub returns-clause-stands : goal.returns-clause-stands
returns-clause-stands g c = subst (λ (table : Contents). Stands c.args.limit [] table) (sym (returns-clause-empty g c)) (stands_open c.args.limit c.requires.least c.requires.most)
