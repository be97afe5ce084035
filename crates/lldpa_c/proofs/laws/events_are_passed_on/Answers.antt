use Rattle.std.proofs.Common.{◌≡◌, ℕ, ◌-◌, true, List, length, take, drop, max, Some, refl, sym, ap, subst, ◌∙◌, arith}
use Rattle.std.specs.Prelude.{Result, Ok, Err}
use Rattle.std.specs.List.{flat_map}
use Rattle.std.proofs.lemmas.Grind.{flat_map-append}
use Rattle.std.proofs.lemmas.List.{take_all, take-append-drop, length-drop}
use Rattle.std.proofs.lemmas.Option.{same_Some}
use Rattle.lldp_transmit.specs.declared.event.Mark.{Mark}
use Rattle.lldp_text.specs.Text.{ended}
use Rattle.lldp_text.specs.declared.fault.CommandFault.{CommandFault}
use Rattle.lldp_text.specs.declared.fault.CommandFault.TheVariants as fault
use Rattle.lldp_engine.specs.declared.command.Show.{Show}
use Rattle.lldp_engine.specs.declared.command.Show.TheVariants as shown
use Rattle.lldp_engine.specs.AgentState.{AgentState}
use Rattle.lldp_engine.specs.Command.{Command, show, set}
use Rattle.lldp_engine.specs.Event as event
use Rattle.lldp_engine.specs.Lines.{lines_of}
use Rattle.lldp_engine.specs.Code.Step.{agent_marks}
use Rattle.lldpa_c.specs.declared.lines.LldpaLines.{LldpaLines}
use Rattle.lldpa_c.specs.declared.marks.LldpaMarks.{LldpaMarks}
use Rattle.lldpa_c.specs.Agent.{Steps}
use Rattle.lldpa_c.specs.Command.{Obeys, show_number, show_numbered}
use Rattle.lldpa_c.specs.Faults.{command_fault_number}
use Rattle.lldpa_c.specs.Filled.{Filled}
use Rattle.lldpa_c.specs.Marks.{TellsMarks}
use Rattle.lldpa_c.specs.Laws.Passed.{IsPassedOn, show_asked}
use Rattle.lldpa_c.proofs.Items.{are_items}
use Rattle.lldpa_c.proofs.laws.events_are_passed_on.Goals as goal

passed : (agent after : AgentState) (event : event.Event) (sent : List (ℕ × Mark)) (told : LldpaMarks) → Steps agent event after sent → TellsMarks sent told
    → IsPassedOn agent event after told
passed agent after event sent told steps tells = record {
  next = steps.next;
  sent = are_items (agent_marks event agent) told (subst (λ (marks : List (ℕ × Mark)). TellsMarks marks told) steps.marks tells);
}

-- ---- the show to print

a_fault : (fault : CommandFault) → 0 ≡ command_fault_number fault → ⊥
a_fault fault.Unknown h = absurd (omega (arith, h))
a_fault fault.NoSuchPort h = absurd (omega (arith, h))
a_fault fault.Number h = absurd (omega (arith, h))
a_fault fault.Range h = absurd (omega (arith, h))
a_fault fault.Text h = absurd (omega (arith, h))
a_fault fault.Extra h = absurd (omega (arith, h))
a_fault fault.Quote h = absurd (omega (arith, h))
a_fault fault.InUse h = absurd (omega (arith, h))

numbered_back : (what : Show) → show_numbered (show_number what) ≡ Some what
numbered_back shown.Neighbors = refl
numbered_back shown.Statistics = refl
numbered_back shown.Chassis = refl
numbered_back shown.Configuration = refl

shows : (said : Result Command CommandFault) (agent after : AgentState) (number told : ℕ) (marks_before marks : LldpaMarks)
    → Obeys said agent number marks_before 0 after told marks → show_numbered told ≡ show_asked said
shows (Err fault) agent after number told marks_before marks o = absurd (a_fault fault o.0)
shows (Ok (show what)) agent after number told marks_before marks o = ap show_numbered o.2 ∙ numbered_back what
shows (Ok (set setting)) agent after number told marks_before marks o = ap show_numbered o.1

pub returns-clause-passed : goal.returns-clause-passed
returns-clause-passed c = record {
  events = λ before after event told_before told a. let t = a.taken refl in (t.open_after, passed _ _ event t.sent told t.steps t.told_are);
  settings = λ agent after setting number told marks_before marks o.
      passed agent after (event.set setting) o.2.sent marks o.2.steps o.2.told_are;
  shows = shows;
}

-- ---- shows in parts

lines_are : (agent : AgentState) (number from : ℕ) (which : Show) (told : LldpaLines) (room : List ℕ) → show_numbered number ≡ Some which → Filled agent number from told room
    → take told.length room ≡ flat_map ended (take (told.next - from) (drop from (lines_of which agent)))
lines_are agent number from which told room e f =
    let same : f.show ≡ which = same_Some f.show which (sym f.numbered ∙ e) in
    f.lines.are ∙ ap (λ (s : Show). flat_map ended (take (told.next - from) (drop from (lines_of s agent)))) same

last_is : (agent : AgentState) (number from : ℕ) (which : Show) (told : LldpaLines) (room : List ℕ) → show_numbered number ≡ Some which → Filled agent number from told room
    → told.done ≡ true → told.next ≡ max from (length (lines_of which agent))
last_is agent number from which told room e f done =
    let same : f.show ≡ which = same_Some f.show which (sym f.numbered ∙ e) in
    f.done done ∙ ap (λ (s : Show). max from (length (lines_of s agent))) same

rest_is : (lines : List (List ℕ)) (from next : ℕ) → next ≡ max from (length lines) → take (next - from) (drop from lines) ≡ drop from lines
rest_is lines from next e = take_all (next - from) (drop from lines) (omega (arith, e, length-drop from lines))

pub returns-clause-continued : goal.returns-clause-continued
returns-clause-continued c = record {
  whole = λ agent number which told room e f done.
      let lines = lines_of which agent in
      let last = last_is agent number 0 which told room e f done in
      (omega (arith, last), lines_are agent number 0 which told room e f ∙ ap (flat_map ended) (rest_is lines 0 told.next last));
  parts = λ agent number which one two room other e f g done.
      let lines = lines_of which agent in
      let last = last_is agent number one.next which two other e g done in
      let all : one.next - 0 ≡ one.next = omega arith in
      let first = lines_are agent number 0 which one room e f ∙ ap (λ (n : ℕ). flat_map ended (take n lines)) all in
      let rest = lines_are agent number one.next which two other e g ∙ ap (flat_map ended) (rest_is lines one.next two.next last) in
      rw (first, rest) (sym (flat_map-append ended (take one.next lines) (drop one.next lines)) ∙ ap (flat_map ended) (take-append-drop one.next lines));
}

pub returns-clause-kept : goal.returns-clause-kept
returns-clause-kept c = record { shows = λ before after which k is. (k.is_open ∙ is, ap (lines_of which) (k.agent is)) }
