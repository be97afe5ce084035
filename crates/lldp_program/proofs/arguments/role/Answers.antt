use Rattle.std.proofs.Common.{◌∙◌, ap, refl, Some}
use Rattle.clap.specs.Walk.{Rule, rule_of}
use Rattle.lldp_program.proofs.Words.Usage.{role_ruled}
use Rattle.lldp_program.proofs.arguments.role.Goals as goal

pub returns : goal.returns
returns c =
    let given = c.value_parser.ensures.given in
    role_ruled given.0 _ (rule_of c.value_parser.result) given.2 refl
    (ap rule_of c.value_parser.ensures.others
    ∙ (ap (λ p. record (rule_of c.text.result) { parser = p }) given.1
    ∙ ap (λ (r : Rule). record r { parser = Some given.0 }) c.text.ensures))
