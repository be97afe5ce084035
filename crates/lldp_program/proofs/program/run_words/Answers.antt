use Rattle.std.proofs.Common.{inl, inr}
use Rattle.clap.specs.Values.{kind_of}
use Rattle.lldp_program.proofs.Statuses.{asked_for, asks_for_help, ends_below_two, keeps_same}
use Rattle.lldp_program.proofs.program.run_words.Goals as goal

pub returns-in-Ok-clause-answered : goal.returns-in-Ok-clause-answered
returns-in-Ok-clause-answered g c some =
    let ran = c.run_matches.ensures.ran some in
    inr (record { rows = _; parse = c.in-Ok.ensures.words; options = ran.0; asks = ran.1; sound = ran.2; ran = ran.3 })

pub returns-in-Ok-clause-refused : goal.returns-in-Ok-clause-refused
returns-in-Ok-clause-refused g c two = let refused = c.run_matches.ensures.refused two in inr (c.run_matches.ensures.place, inr (_, refused.0, c.in-Ok.ensures.words, refused.1, refused.2))

pub returns-in-Err-clause-answered : goal.returns-in-Err-clause-answered
returns-in-Err-clause-answered g c some = elim (asked_for (kind_of c.in-Err.error)) [
  | inl asked ↦ let answered = c.answer_words.ensures.answered asked in
      inl (asks_for_help _ (kind_of c.in-Err.error) asked c.in-Err.ensures.kinds, keeps_same (g.R.Read.remaining c.args.reader.now), answered.1)
  | inr other ↦ absurd (some (c.answer_words.ensures.refused other.0 other.1).0)
]

pub returns-in-Err-clause-refused : goal.returns-in-Err-clause-refused
returns-in-Err-clause-refused g c two = elim c.in-Err.ensures.kinds [
  | inl memory ↦ let told = c.answer_words.ensures.memory memory in inr (told.0, inl told.1)
  | inr fails ↦ elim (asked_for (kind_of c.in-Err.error)) [
    | inl asked ↦ absurd (ends_below_two _ _ c.answer_words.result (c.answer_words.ensures.answered asked).1 two)
    | inr other ↦ inl (kind_of c.in-Err.error, fails, other.0, other.1)
  ]
]

pub returns-in-Err-clause-place : goal.returns-in-Err-clause-place
returns-in-Err-clause-place g c some = elim (asked_for (kind_of c.in-Err.error)) [
  | inl asked ↦ (c.answer_words.ensures.answered asked).0
  | inr other ↦ absurd (some (c.answer_words.ensures.refused other.0 other.1).0)
]
