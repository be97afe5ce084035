use Rattle.std.proofs.Common.{sym, subst, ◌∙◌, arith}
use Rattle.lldpa_c.specs.Due.{IsDue}
use Rattle.lldpa_c.proofs.Dueness.{is_due, none_is_due}
use Rattle.lldpa_c.proofs.due.seconds_of.Goals as goal

pub returns-in-Some : goal.returns-in-Some
returns-in-Some c =
    subst (IsDue c.args.agent.now) (sym (c.from.ensures ∙ c.max.ensures))
    (is_due c.args.agent.now c.in-Some.ticks (sym c.due_on.ensures ∙ c.in-Some.is) (omega (arith, c.max.ensures, c.max.type_inv)))

pub returns-in-None : goal.returns-in-None
returns-in-None c = none_is_due c.args.agent.now (sym c.due_on.ensures ∙ c.in-None.is)
