use Rattle.std.proofs.Common.{refl}
use Rattle.lldp_text.specs.Number.{number_of}
use Rattle.lldp_program.specs.Trace.Forms.{of_command, tick_form, form_of}
use Rattle.lldp_program.proofs.ForLaws.Sayings.{command_begins, counted}
use Rattle.lldp_program.proofs.laws.sayings.first_words_decide_forms.Goals as goal

pub returns-clause-words : goal.returns-clause-words
unfolding form_of
returns-clause-words c = λ agent words. record { tick = refl; rx = refl; up = refl; down = refl; others = command_begins agent words; none = refl }

pub returns-clause-ticks : goal.returns-clause-ticks
unfolding tick_form
returns-clause-ticks c = record { alone = refl; numbered = λ word. counted (of_command (number_of word 1 65535)); least = refl; many = refl; greatest = refl; above = refl; below = refl }
