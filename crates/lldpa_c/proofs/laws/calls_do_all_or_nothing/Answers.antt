use Rattle.std.proofs.Common.{◌≡◌, ℕ, Bool, true, false, refl, sym, subst, ◌∙◌, arith}
use Rattle.std.specs.Prelude.{List, Result, Ok, Err}
use Rattle.lldp_text.specs.declared.fault.CommandFault.{CommandFault}
use Rattle.lldp_engine.specs.declared.command.Show.{Show}
use Rattle.lldp_engine.specs.AgentState.{AgentState}
use Rattle.lldp_engine.specs.Command.{Command, show, set}
use Rattle.lldp_engine.specs.Event as event
use Rattle.lldpa_c.specs.declared.holder.LldpaAgent.{LldpaAgent}
use Rattle.lldpa_c.specs.declared.marks.LldpaMarks.{LldpaMarks}
use Rattle.lldpa_c.specs.declared.ticks.LldpaTicks.{LldpaTicks}
use Rattle.lldpa_c.specs.Agent.{Answers}
use Rattle.lldpa_c.specs.Command.{Obeys, Obeyed}
use Rattle.lldpa_c.specs.Frame.{Keeps}
use Rattle.lldpa_c.specs.Leaving.{Left}
use Rattle.lldpa_c.specs.Ticks.{TicksTaken}
use Rattle.lldpa_c.proofs.Items.{are_items}
use Rattle.lldpa_c.proofs.laws.calls_do_all_or_nothing.Goals as goal

open_and_closed : (b : Bool) → b ≡ false → b ≡ true → ⊥
open_and_closed b closed opened = absurd cc

keeps_closed : (before after : LldpaAgent) → before.is_open ≡ false → after.is_open ≡ false → Keeps before after
keeps_closed before after is same = record { is_open = same ∙ sym is; agent = λ opened. absurd (open_and_closed _ is opened) }

refused : (before after : LldpaAgent) (event : event.Event) (answer : ℕ) (told_before told : LldpaMarks) → Answers before event told_before answer after told → ¬ (answer ≡ 0)
    → (b : Bool) → before.is_open ≡ b → Keeps before after × (told ≡ told_before)
refused before after event answer told_before told a differs true is =
    let r = a.refused is (λ allowed. differs (a.allowed is allowed)) in (record { is_open = r.1 ∙ sym is; agent = λ opened. r.2 }, r.3)
refused before after event answer told_before told a differs false is = let r = a.closed is in (keeps_closed before after is r.1, r.2)

-- ---- commands

said_no : (said : Result Command CommandFault) (agent after : AgentState) (show_before answer asked : ℕ) (told_before told : LldpaMarks)
    → Obeys said agent show_before told_before answer after asked told → ¬ (answer ≡ 0) → (after ≡ agent) × (asked ≡ show_before) × (told ≡ told_before)
said_no (Err fault) agent after show_before answer asked told_before told o differs = (o.1, o.2, o.3)
said_no (Ok (show what)) agent after show_before answer asked told_before told o differs = absurd (differs o.0)
said_no (Ok (set setting)) agent after show_before answer asked told_before told o differs = absurd (differs o.0)

stays_open : (before after : LldpaAgent) (line : List ℕ) (show_before asked answer : ℕ) (told_before told : LldpaMarks)
    → Obeyed before line show_before told_before answer after asked told → answer ≡ 0 → (b : Bool) → before.is_open ≡ b → after.is_open ≡ true
stays_open before after line show_before asked answer told_before told o e true is = (o.obeyed is).0
stays_open before after line show_before asked answer told_before told o e false is = absurd (omega (arith, e, (o.closed is).0))

keeps_all : (before after : LldpaAgent) (line : List ℕ) (show_before asked answer : ℕ) (told_before told : LldpaMarks)
    → Obeyed before line show_before told_before answer after asked told → ¬ (answer ≡ 0) → (b : Bool) → before.is_open ≡ b
    → Keeps before after × (asked ≡ show_before) × (told ≡ told_before)
keeps_all before after line show_before asked answer told_before told o differs true is =
    let same = said_no _ _ _ _ _ _ _ _ (o.obeyed is).1 differs in (record { is_open = (o.obeyed is).0 ∙ sym is; agent = λ opened. same.0 }, same.1, same.2)
keeps_all before after line show_before asked answer told_before told o differs false is =
    let r = o.closed is in (keeps_closed before after is r.1, r.2, r.3)

shown : (said : Result Command CommandFault) (agent after : AgentState) (show_before answer asked : ℕ) (told_before told : LldpaMarks) (what : Show)
    → Obeys said agent show_before told_before answer after asked told → said ≡ Ok (show what) → (after ≡ agent) × (told.count ≡ 0)
shown said agent after show_before answer asked told_before told what o e =
    let shows = subst (λ (r : Result Command CommandFault). Obeys r agent show_before told_before answer after asked told) e o in (shows.1, shows.3.count)

-- ---- ticks and leaving

taken : (before after : LldpaAgent) (asked answer : ℕ) (marks_before marks : LldpaMarks) (told_before told : LldpaTicks)
    → TicksTaken before asked marks_before told_before answer after marks told → answer ≡ 0 → (b : Bool) → before.is_open ≡ b → before.is_open ≡ true
taken before after asked answer marks_before marks told_before told t e true is = is
taken before after asked answer marks_before marks told_before told t e false is = absurd (omega (arith, e, (t.closed is).0))

not_taken : (before after : LldpaAgent) (asked answer : ℕ) (marks_before marks : LldpaMarks) (told_before told : LldpaTicks)
    → TicksTaken before asked marks_before told_before answer after marks told → ¬ (answer ≡ 0) → (b : Bool) → before.is_open ≡ b
    → Keeps before after × (marks ≡ marks_before) × (told ≡ told_before)
not_taken before after asked answer marks_before marks told_before told t differs true is = absurd (differs (t.taken is).0)
not_taken before after asked answer marks_before marks told_before told t differs false is =
    let r = t.closed is in (keeps_closed before after is r.1, r.2, r.3)

left : (before after : LldpaAgent) (answer : ℕ) (marks_before marks : LldpaMarks) → Left before marks_before answer after marks → answer ≡ 0
    → (b : Bool) → before.is_open ≡ b → after.is_open ≡ true
left before after answer marks_before marks l e true is = (l.left is).1
left before after answer marks_before marks l e false is = absurd (omega (arith, e, (l.closed is).0))

not_left : (before after : LldpaAgent) (answer : ℕ) (marks_before marks : LldpaMarks) → Left before marks_before answer after marks → ¬ (answer ≡ 0)
    → (b : Bool) → before.is_open ≡ b → Keeps before after × (marks ≡ marks_before)
not_left before after answer marks_before marks l differs true is = absurd (differs (l.left is).0)
not_left before after answer marks_before marks l differs false is = let r = l.closed is in (keeps_closed before after is r.1, r.2)

pub returns : goal.returns
returns c = record {
  events = λ before after event answer told_before told a differs. refused before after event answer told_before told a differs _ refl;
  commands = λ before after line show_before asked answer told_before told o. (
    λ e. stays_open before after line show_before asked answer told_before told o e _ refl,
    λ differs. keeps_all before after line show_before asked answer told_before told o differs _ refl,
  );
  shows = λ before after line show_before asked answer told_before told what o is e. shown _ _ _ _ _ _ _ _ what (o.obeyed is).1 e;
  ticks = λ before after asked answer marks_before marks told_before told t. (
    λ e.
        let all = t.taken (taken before after asked answer marks_before marks told_before told t e _ refl) in
        (all.1, (all.2.0, are_items all.2.0 marks all.2.1, all.2.2)),
    λ differs. not_taken before after asked answer marks_before marks told_before told t differs _ refl,
  );
  leaving = λ before after answer marks_before marks l. (
    λ e. left before after answer marks_before marks l e _ refl,
    λ differs. not_left before after answer marks_before marks l differs _ refl,
  );
}
