use Rattle.std.proofs.Common.{arith}
use Rattle.lldp_text.proofs.WordsReading.{no_words, bare_found, quoted_found, quoted_open}
use Rattle.lldp_text.proofs.splitting.first_word.Goals as goal
use Rattle.std.proofs.lemmas.Grind.{common_steps}

pub returns-in_default-clause-first : goal.returns-in_default-clause-first
returns-in_default-clause-first c = grind (arith, common_steps, no_words)

pub returns-in-Some-split_at_quote-clause-first : goal.returns-in-Some-split_at_quote-clause-first
returns-in-Some-split_at_quote-clause-first c =
    let split = c.split_at_word.ensures in
    let found = c.in-Some-split_at_quote.ensures.found in
    quoted_found (λ x. x.0.now) (λ x. x.1.now) c.ended_word.result _ _ _ _ _ _ _ split.gap split.whole c.in-Some.ensures.cases c.if-first-eq34.true found.0 found.1 c.ended_word.ensures.ends

pub returns-in-None-clause-first : goal.returns-in-None-clause-first
returns-in-None-clause-first c = grind (arith, common_steps, quoted_open)

pub returns-else-first-eq34-clause-first : goal.returns-else-first-eq34-clause-first
returns-else-first-eq34-clause-first c =
    let split = c.split_at_word.ensures in
    let bare = c.split_at_bare.ensures in
    bare_found (λ x. x.0.now) (λ x. x.1.now) c.ended_word-else-first-eq34.result _ _ _ _ _ _ _ split.gap split.whole split.stops c.in-Some.ensures.cases c.if-first-eq34.false bare.bare bare.whole bare.stops c.ended_word-else-first-eq34.ensures.ends
