use Rattle.std.proofs.Common.{◌≡◌, ℕ, Bool, true, false, not, [], ◌∷◌, length, take, Some, refl, sym, ◌∙◌, arith}
use Rattle.std.specs.Prelude.{Option, is_none, slice_get, option_and_then}
use Rattle.std.specs.Option.{option_map}
use Rattle.std.proofs.lemmas.Bool.{not-false}
use Rattle.std.proofs.lemmas.List.{length-take}
use Rattle.lldp_text.specs.Text.{ended}
use Rattle.lldp_engine.specs.declared.command.Show.{Show}
use Rattle.lldp_engine.specs.AgentState.{AgentState}
use Rattle.lldp_engine.specs.Lines.{lines_of}
use Rattle.lldpa_c.specs.Answer.{answer_of, is_over}
use Rattle.lldpa_c.proofs.Coming.{no_more, none_over, some_within}
use Rattle.lldpa_c.proofs.lines.lldpa_show_lines.Goals as goal
use Rattle.lldpa_c.proofs.lines.lldpa_show_lines.Goals.{else-lines-from-via-then-lines-from+else-not-lines, else-lines-from-via-else-lines-from}

all_pass : (o : Option Show) (is_open : Bool) (show : Show) (agent : AgentState) (from room : ℕ) → o ≡ Some show → is_open ≡ true → is_over room (option_map ended (slice_get (lines_of show agent) from)) ≡ false
    → 0 ≡ answer_of (record { fails = is_none o; fault = 100 } ∷ record { fails = not is_open; fault = 102 } ∷ record { fails = is_over room (option_map ended (option_and_then (λ (s : Show). slice_get (lines_of s agent) from) o)); fault = 101 } ∷ [])
all_pass o is_open show agent from room e f g = rw (e, f, g) refl

pub returns-clause-answer : goal.returns-clause-answer
returns-clause-answer c =
    let agent = c.args.agent.now.held.agent in
    let lines = lines_of c.in-Some.show agent in
    let room = length c.args.room.now in
    let same : c.deref_mut.result.now ≡ agent = c.deref_mut.ensures.value ∙ c.in-Some-take.ensures.some.1 in
    let f = rw same at c.fill-lines.ensures in
    let fits : is_over room (option_map ended (slice_get lines c.args.from)) ≡ false = elim c.else-lines-from.branch [
      | else-lines-from-via-then-lines-from+else-not-lines w ↦ none_over lines c.args.from room (no_more lines c.args.from (sym w.if-lines-from.true ∙ f.done (not-false _ w.if-not-lines.false)))
      | else-lines-from-via-else-lines-from w ↦ some_within lines c.args.from c.fill-lines.result.next room (take c.fill-lines.result.length c.fill-lines.new.room) f.octets (omega (arith, f.octets.order, w.if-lines-from.false)) (omega (arith, length-take c.fill-lines.result.length c.fill-lines.new.room, c.fill-lines.auto.room))
    ] in
    all_pass _ _ c.in-Some.show agent c.args.from room (sym c.show_numbered.ensures ∙ c.in-Some.is) c.in-Some-take.ensures.some.0 fits
