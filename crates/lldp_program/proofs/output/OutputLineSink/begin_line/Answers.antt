use Rattle.std.proofs.Common.{refl, rules, sym, ◌∙◌}
use Rattle.lldp_program.specs.Trace.Lines.{ended}
use Rattle.lldp_program.proofs.Texts.Taken.{puts_then, puts_waiting, puts_no_more, no_fault, a_fault, behind_lent}
use Rattle.lldp_program.proofs.output.OutputLineSink.begin_line.Goals as goal

pub returns : goal.returns
returns g c =
    let ok = no_fault _ (sym c.is_err.ensures.value ∙ c.if-is_err.false) in (
      (refl, (λ text writer line is e short. puts_then _ _ _ _ _ c.make_room.ensures.puts (puts_waiting _ text (ended line) ok (behind_lent _ writer text (ended line) is e))), (λ line none. cc)),
      record { takes_line = tt; room = search rules },
    )

pub returns-then-is_err : goal.returns-then-is_err
returns-then-is_err g c =
    let failed = a_fault _ (sym c.is_err.ensures.value ∙ c.if-is_err.true) in (
      (refl, (λ text writer line is e short. cc), (λ line none. puts_then _ _ _ _ _ c.make_room.ensures.puts (puts_no_more _ (ended line) failed))),
      record { takes_line = tt; room = search rules },
    )
