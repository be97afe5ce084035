use Rattle.std.proofs.Common.{ap, arith}
use Rattle.std.proofs.lemmas.Grind.{common_steps}
use Rattle.lldp_table.specs.Events.{set_limit}
use Rattle.lldp_table.specs.Contents.{Contents}
use Rattle.lldp_table.specs.Code.Steps.{after_set_limit}
use Rattle.lldp_table.proofs.Slots.Counted.{shown_is}
use Rattle.lldp_table.proofs.Standing.Calls.{stands_after}
use Rattle.lldp_table.proofs.table.Table.set_limit.Goals as goal

pub returns-clause-after : goal.returns-clause-after
returns-clause-after g c = grind (arith, common_steps, ap (λ (table : Contents). after_set_limit table c.args.limit) (shown_is c.self.view_is))

pub returns-clause-stands : goal.returns-clause-stands
returns-clause-stands g c = λ opened calls h.
    stands_after c.args.self.now.shown _ opened calls (set_limit c.args.limit) (returns-clause-after g c)
    (record { least = c.requires.least; most = c.requires.most; held = c.requires.held }) h
