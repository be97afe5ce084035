use Rattle.std.proofs.Common.{inl, inr, map, rules}
use Rattle.lldp_program.specs.Program.{HasAnswered, TellsRefusal}
use Rattle.lldp_program.proofs.Statuses.{told_through}
use Rattle.lldp_program.proofs.program.run_program.Goals as goal

pub returns-clause-answered : goal.returns-clause-answered
returns-clause-answered g c some =
    let words = map g.S.AsStr.text c.args.words.now in
    let run = HasAnswered words (g.R.Read.remaining c.args.reader.now) (g.R.Read.remaining c.run_words.new.reader) (g.W.Write.contents c.args.writer.now) (g.W.Write.contents c.run_words.new.writer) in
    let place = c.run_words.ensures.place some in
    told_through (λ before after. run before after c.run_words.result) _ _ _ _ _ _ c.new.ensures.octets c.new.ensures.failures (search (rules, place)) (c.run_words.ensures.answered some)

pub returns-clause-refused : goal.returns-clause-refused
returns-clause-refused g c two = elim (c.run_words.ensures.refused two) [
  | inl wrong ↦ (0, inl wrong)
  | inr told ↦
      let n = told_through (TellsRefusal (map g.S.AsStr.text c.args.words.now)) _ _ _ _ _ _ c.new.ensures.octets c.new.ensures.failures (search (rules, told.0)) told.1 in
      (n.0, inr n.1)
]
