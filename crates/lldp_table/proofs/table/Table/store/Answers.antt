use Rattle.std.proofs.Common.{arith, rules}
use Rattle.std.proofs.lemmas.Grind.{common_steps}
use Rattle.lldp_table.specs.Events.{learn}
use Rattle.lldp_table.proofs.Standing.Calls.{stands_after}
use Rattle.lldp_table.proofs.Slots.Places.{held_there}
use Rattle.lldp_table.proofs.Outcomes.{outcome_between_is, none_held}
use Rattle.lldp_table.proofs.table.Table.store.Goals as goal

-- ## A neighbor that is held

pub returns-in-Some-clause-outcome : goal.returns-in-Some-clause-outcome
returns-in-Some-clause-outcome g c = search rules

pub returns-in-Some-clause-after : goal.returns-in-Some-clause-after
returns-in-Some-clause-after g c = grind (arith, common_steps, held_there)

pub returns-in-Some-clause-between : goal.returns-in-Some-clause-between
returns-in-Some-clause-between g c = outcome_between_is c.args.self.now.shown c.args.info.now.msap c.args.info.now.ttl c.args.info.now.octets (returns-in-Some-clause-outcome g c) (returns-in-Some-clause-after g c)

pub returns-in-Some-clause-stands : goal.returns-in-Some-clause-stands
returns-in-Some-clause-stands g c = λ opened calls h.
    stands_after c.args.self.now.shown _ opened calls (learn c.args.info.now.msap c.args.info.now.ttl c.args.info.now.octets) (returns-in-Some-clause-after g c) (search rules) h

-- ## A new neighbor

pub returns-then-has_room-clause-outcome : goal.returns-then-has_room-clause-outcome
returns-then-has_room-clause-outcome g c = grind (arith, common_steps, none_held)

pub returns-then-has_room-clause-after : goal.returns-then-has_room-clause-after
returns-then-has_room-clause-after g c = grind (arith, common_steps)

pub returns-then-has_room-clause-between : goal.returns-then-has_room-clause-between
returns-then-has_room-clause-between g c = outcome_between_is c.args.self.now.shown c.args.info.now.msap c.args.info.now.ttl c.args.info.now.octets (returns-then-has_room-clause-outcome g c) (returns-then-has_room-clause-after g c)

pub returns-then-has_room-clause-stands : goal.returns-then-has_room-clause-stands
returns-then-has_room-clause-stands g c = λ opened calls h.
    stands_after c.args.self.now.shown _ opened calls (learn c.args.info.now.msap c.args.info.now.ttl c.args.info.now.octets) (returns-then-has_room-clause-after g c) (search rules) h

-- ## No room

pub returns-clause-outcome : goal.returns-clause-outcome
returns-clause-outcome g c = grind (arith, common_steps, none_held)

pub returns-clause-after : goal.returns-clause-after
returns-clause-after g c = grind (arith, common_steps)

pub returns-clause-between : goal.returns-clause-between
returns-clause-between g c = outcome_between_is c.args.self.now.shown c.args.info.now.msap c.args.info.now.ttl c.args.info.now.octets (returns-clause-outcome g c) (returns-clause-after g c)

pub returns-clause-stands : goal.returns-clause-stands
returns-clause-stands g c = λ opened calls h.
    stands_after c.args.self.now.shown _ opened calls (learn c.args.info.now.msap c.args.info.now.ttl c.args.info.now.octets) (returns-clause-after g c) (search rules) h
