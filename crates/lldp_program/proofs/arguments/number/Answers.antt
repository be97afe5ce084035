use Rattle.std.proofs.Common.{◌≡◌, ◌∙◌, ◌≤◌, ℕ, ap, Some, arith}
use Rattle.std.specs.Prelude.{ℤ, pos}
use Rattle.std.proofs.lemmas.Grind.{common_steps}
use Rattle.clap.specs.Walk.{Rule, rule_of}
use Rattle.clap.specs.Words.{NarrowsTo}
use Rattle.clap.specs.declared.builder.value_parser.ValueParser.{ValueParser}
use Rattle.clap.specs.declared.builder.value_parser.ValueParser.TheVariants.{Signed}
use Rattle.lldp_program.proofs.arguments.number.Goals as goal

-- the parser of u16, narrowed to the numbers from 1 to n
narrowed : (p q : ValueParser) (from to : ℤ) (n : ℕ) → p ≡ Signed (pos 0) (pos 65535) → from ≡ pos 1 → to ≡ pos n → n ≤ 65535 → NarrowsTo p (Some from) (Some to) q → q ≡ Signed (pos 1) (pos n)
narrowed p q from to n is least most fits h = grind (arith, common_steps)

pub returns : goal.returns
returns c =
    let fits : c.args.greatest ≤ 65535 = (let h = c.ranges.greatest.fits in omega arith) in
    let end = c.new.ensures.end ∙ rw c.from.ensures grind (arith, common_steps, fits) in
    let given = c.value_parser-2.ensures.given in
    let within = given.2 ∙ narrowed _ _ _ _ c.args.greatest c.value_parser.ensures c.new.ensures.start end fits c.range-numbers.ensures in
    ap rule_of c.value_parser-2.ensures.others
    ∙ (ap (λ p. record (rule_of c.text.result) { parser = p }) (given.1 ∙ ap Some within)
    ∙ ap (λ (r : Rule). record r { parser = Some (Signed (pos 1) (pos c.args.greatest)) }) c.text.ensures)
