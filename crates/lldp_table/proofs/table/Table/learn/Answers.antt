use Rattle.std.proofs.Common.{◌∙◌, ap}
use Rattle.lldp_table.specs.Outcomes.{learned_of}
use Rattle.lldp_table.proofs.Standing.Calls.{learn_answers}
use Rattle.lldp_table.proofs.Outcomes.{outcome_answers}
use Rattle.lldp_table.proofs.table.Table.learn.Goals as goal

pub returns-clause-answer : goal.returns-clause-answer
returns-clause-answer g c = c.learned.ensures ∙ ap learned_of c.store.ensures.outcome ∙ outcome_answers c.args.self.now.shown c.args.info.now.msap c.args.info.now.ttl c.args.info.now.octets

pub returns-clause-answers : goal.returns-clause-answers
returns-clause-answers g c = λ opened calls h. returns-clause-answer g c ∙ learn_answers c.args.self.now.shown opened calls c.args.info.now.msap h
