use Rattle.std.proofs.Common.{ap, arith}
use Rattle.std.proofs.lemmas.Grind.{common_steps}
use Rattle.lldp_table.specs.Events.{purge}
use Rattle.lldp_table.specs.Code.Steps.{after_purge}
use Rattle.lldp_table.proofs.Slots.Counted.{shown_is}
use Rattle.lldp_table.proofs.Standing.Calls.{stands_after}
use Rattle.lldp_table.proofs.Slots.Learned.{purged_table}
use Rattle.lldp_table.proofs.table.Table.purge.Goals as goal

pub invariant_of-self : goal.invariant_of-self
invariant_of-self g c =
    record {
      table = purged_table c.self.invariant.table c.clear.new.self.shown 0 0 c.self.inside.limit 0 c.clear.ensures (omega arith) (omega arith) (omega arith) (omega arith);
      tagged = c.self.invariant.tagged;
    }

pub returns-clause-after : goal.returns-clause-after
returns-clause-after g c = grind (arith, common_steps, ap after_purge (shown_is c.self.view_is))

pub returns-clause-stands : goal.returns-clause-stands
returns-clause-stands g c = λ opened calls h. stands_after c.args.self.now.shown _ opened calls purge (returns-clause-after g c) tt h
