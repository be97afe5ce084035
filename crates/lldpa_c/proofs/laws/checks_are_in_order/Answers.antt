use Rattle.std.proofs.Common.{◌≡◌, ℕ, zero, suc, ◌+◌, ◌<◌, ◌≤◌, Bool, true, false, inl, inr, List, [], ◌∷◌, length, Option, Some, None, refl, subst, arith}
use Rattle.std.specs.Prelude.{is_none, not, nat_lt, slice_get, option_and_then, Result, Ok, Err, if◌then◌else◌}
use Rattle.std.specs.Option.{option_map}
use Rattle.std.proofs.lemmas.Bool.{lt-ltb, le-ltb, ltb-true, ltb-false, not-true, cases_lt}
use Rattle.std.proofs.lemmas.List.{length-append}
use Rattle.std.proofs.lemmas.Option.{slice_get_past}
use Rattle.lldp_text.specs.Text.{ended, escaped}
use Rattle.lldp_text.specs.declared.fault.CommandFault.{CommandFault}
use Rattle.lldp_engine.specs.declared.command.Show.{Show}
use Rattle.lldp_engine.specs.AgentState.{AgentState, name_of}
use Rattle.lldp_engine.specs.Command.{Command, show, set}
use Rattle.lldp_engine.specs.Frames.{frame_of}
use Rattle.lldp_engine.specs.Lines.{lines_of}
use Rattle.lldpa_c.specs.declared.holder.LldpaAgent.{LldpaAgent}
use Rattle.lldpa_c.specs.declared.marks.LldpaMarks.{LldpaMarks}
use Rattle.lldpa_c.specs.Answer.{answer_of, is_over}
use Rattle.lldpa_c.specs.Command.{Obeys, show_numbered}
use Rattle.lldpa_c.specs.Faults.{command_fault_number}
use Rattle.lldpa_c.specs.Frame.{has_no_port, mark_numbered}
use Rattle.lldp_table.specs.Events.{Neighbor}
use Rattle.lldpa_c.specs.Held.{found_checks, neighbors_at, gone_at}
use Rattle.lldpa_c.specs.Texts.{words_of}
use Rattle.lldpa_c.specs.Values.{tlv_value}
use Rattle.lldpa_c.proofs.Lengths.{no_identifier, is_identifier, not_less}
use Rattle.lldpa_c.specs.Laws.Order.{First, IsSuccess, IsClosed, HasNoPort, IsTooLong, IsTooLongAt, FindsInOrder, IsLineTooLong, IsFrameTooLong}
use Rattle.lldpa_c.proofs.laws.checks_are_in_order.Goals as goal

-- ---- a check, and the condition under which it fails

first : {P : Type 0} (fails : Bool) (n rest : ℕ) (Q : ℕ → Type 0) → (P → fails ≡ true) → (fails ≡ true → P) → Q rest → First P n Q (if fails then n else rest)
first true n rest Q to from q = (λ p. refl, λ no. absurd (no (from refl)))
first false n rest Q to from q = (λ p. let h = to p in absurd cc, λ no. q)

none_from : {X : Type 0} (o : Option X) → is_none o ≡ true → o ≡ None
none_from None h = refl
none_from (Some x) h = absurd cc

none : {X : Type 0} (o : Option X) (n rest : ℕ) (Q : ℕ → Type 0) → Q rest → First (o ≡ None) n Q (if is_none o then n else rest)
none o n rest Q q = first (is_none o) n rest Q (λ e. rw e refl) (none_from o) q

closed : (handle : LldpaAgent) (n rest : ℕ) (Q : ℕ → Type 0) → Q rest → First (IsClosed handle) n Q (if not handle.is_open then n else rest)
closed handle n rest Q q = first (not handle.is_open) n rest Q (λ e. rw e refl) (not-true _) q

no_port : (handle : LldpaAgent) (port n rest : ℕ) (Q : ℕ → Type 0) → Q rest → First (HasNoPort handle port) n Q (if has_no_port handle.held.agent port then n else rest)
no_port handle port n rest Q q = first (has_no_port handle.held.agent port) n rest Q (λ h. rw (le-ltb port (length handle.held.agent.ports) h) refl) (λ h. ltb-false _ _ (not-true _ h)) q

-- ---- octets that do not fit

over_to : {X : Type 0} (f : X → List ℕ) (room : ℕ) (o : Option X) → ((x : X) × (o ≡ Some x) × (room < length (f x))) → is_over room (option_map f o) ≡ true
over_to f room o h = rw (h.1, lt-ltb room (length (f h.0)) h.2) refl

over_from : {X : Type 0} (f : X → List ℕ) (room : ℕ) (o : Option X) → is_over room (option_map f o) ≡ true → (x : X) × (o ≡ Some x) × (room < length (f x))
over_from f room None h = absurd cc
over_from f room (Some x) h = (x, refl, ltb-true _ _ h)

too_long_to : (room : ℕ) (o : Option (List ℕ)) → IsTooLong o room → is_over room o ≡ true
too_long_to room o h = rw (h.1, lt-ltb room (length h.0) h.2) refl

too_long_from : (room : ℕ) (o : Option (List ℕ)) → is_over room o ≡ true → IsTooLong o room
too_long_from room None h = absurd cc
too_long_from room (Some octets) h = (octets, refl, ltb-true _ _ h)

too_long : (o : Option (List ℕ)) (room n rest : ℕ) (Q : ℕ → Type 0) → Q rest → First (IsTooLong o room) n Q (if is_over room o then n else rest)
too_long o room n rest Q q = first (is_over room o) n rest Q (too_long_to room o) (too_long_from room o) q

past : {X : Type 0} (xs : List X) (i : ℕ) → is_none (slice_get xs i) ≡ true → length xs ≤ i
past [] i h = omega arith
past (x ∷ xs) zero h = absurd cc
past (x ∷ xs) (suc i) h = omega (arith, past xs i h)

longer : (line : List ℕ) → length (ended line) ≡ length line + 1
longer line = length-append line (10 ∷ [])

line_to : (handle : LldpaAgent) (number from room : ℕ) → IsLineTooLong handle number from room
    → is_over room (option_map ended (option_and_then (λ show. slice_get (lines_of show handle.held.agent) from) (show_numbered number))) ≡ true
line_to handle number from room h =
    rw (h.2, h.3, lt-ltb room (length (ended h.1)) (omega (arith, longer h.1, h.4))) refl

line_of : (agent : AgentState) (o : Option Show) (from room : ℕ) → is_over room (option_map ended (option_and_then (λ show. slice_get (lines_of show agent) from) o)) ≡ true
    → (show : Show) × (line : List ℕ) × (o ≡ Some show) × (slice_get (lines_of show agent) from ≡ Some line) × (room < length line + 1)
line_of agent None from room h = absurd cc
line_of agent (Some which) from room h =
    let it = over_from ended room (slice_get (lines_of which agent) from) h in
    (which, it.0, refl, it.1, omega (arith, longer it.0, it.2))

finds : (handle : LldpaAgent) (port : ℕ) (held : List Neighbor) (index room : ℕ) → FindsInOrder handle port held index room (answer_of (found_checks handle port (slice_get held index) room))
finds handle port held index room =
    let fits = First (IsTooLongAt held index room) 101 IsSuccess in
    let there = First (length held ≤ index) 100 fits in
    closed handle 102 _ (First (HasNoPort handle port) 103 there) (no_port handle port 103 _ there
    (first (is_none (slice_get held index)) 100 _ fits (λ h. rw (slice_get_past held index h) refl) (past held index)
    (first _ 101 0 IsSuccess (over_to (λ neighbor. neighbor.octets) room (slice_get held index)) (over_from (λ neighbor. neighbor.octets) room (slice_get held index)) refl)))

pub returns-clause-checks : goal.returns-clause-checks
returns-clause-checks c = record {
  opened = λ handle. closed handle 102 0 IsSuccess refl;
  ports = λ handle port. closed handle 102 _ (First (HasNoPort handle port) 103 IsSuccess) (no_port handle port 103 0 IsSuccess refl);
  neighbors = λ handle port index room. finds handle port (neighbors_at handle.held.agent port) index room;
  gone = λ handle port index room. finds handle port (gone_at handle.held.agent port) index room;
  lines = λ handle number from room.
      let fits = First (IsLineTooLong handle number from room) 101 IsSuccess in
      none (show_numbered number) 100 _ (First (IsClosed handle) 102 fits) (closed handle 102 _ fits
      (first _ 101 0 IsSuccess (line_to handle number from room) (line_of handle.held.agent (show_numbered number) from room) refl));
  frames = λ handle port mark room.
      let frame = frame_of handle.held.agent.configuration (name_of handle.held.agent port) in
      let fits = First (IsFrameTooLong handle port mark room) 101 IsSuccess in
      let there = First (HasNoPort handle port) 103 fits in
      none (mark_numbered mark) 100 _ (First (IsClosed handle) 102 there) (closed handle 102 _ there (no_port handle port 103 _ fits
      (first _ 101 0 IsSuccess (over_to frame room (mark_numbered mark)) (over_from frame room (mark_numbered mark)) refl)));
  words = λ number room. none (words_of number) 100 _ (First (IsTooLong (words_of number) room) 101 IsSuccess) (too_long (words_of number) room 101 0 IsSuccess refl);
  values = λ kind body room. none (tlv_value kind body) 100 _ (First (IsTooLong (tlv_value kind body) room) 101 IsSuccess) (too_long (tlv_value kind body) room 101 0 IsSuccess refl);
  escapes = λ text room.
      first (nat_lt 511 (length text)) 100 _ (First (room < length (escaped text)) 101 IsSuccess) (lt-ltb 511 (length text)) (ltb-true _ _)
      (first (nat_lt room (length (escaped text))) 101 0 IsSuccess (lt-ltb room (length (escaped text))) (ltb-true _ _) refl);
  building = λ chassis port faults_before faults room_before room ttl written_before answer written tlvs b. (
    λ wrong. (b.range (λ both. elim wrong [ inl one ↦ absurd (no_identifier chassis one both.0) | inr two ↦ absurd (no_identifier port two both.1) ])).0,
    λ right.
        let one = is_identifier chassis (λ wrong. right (inl wrong)) in
        let two = is_identifier port (λ wrong. right (inr wrong)) in (
          λ few. (b.short one two few).0,
          λ enough.
              let all = not_less (length faults_before) (length tlvs) enough in
              (λ over. b.over one two all over, λ fits. b.fits one two all (not_less (length room_before) _ fits)),
        ),
  );
}

-- ---- events

opened : (b : Bool) → ¬ (b ≡ false) → b ≡ true
opened true h = refl
opened false h = absurd (h refl)

there : (port ports : ℕ) → ¬ (ports ≤ port) → port < ports
there port ports h = elim (cases_lt port ports) [ inl lt ↦ lt | inr le ↦ absurd (h le) ]

said_wrong : (agent after : AgentState) (shown told answer : ℕ) (before marks : LldpaMarks) (said : Result Command CommandFault) (fault : CommandFault)
    → Obeys said agent shown before answer after told marks → said ≡ Err fault → answer ≡ command_fault_number fault
said_wrong agent after shown told answer before marks said fault o e =
    (subst (λ (r : Result Command CommandFault). Obeys r agent shown before answer after told marks) e o).0

said_right : (agent after : AgentState) (shown told answer : ℕ) (before marks : LldpaMarks) (command : Command)
    → Obeys (Ok command) agent shown before answer after told marks → answer ≡ 0
said_right agent after shown told answer before marks (show what) o = o.0
said_right agent after shown told answer before marks (set setting) o = o.0

pub returns-clause-events : goal.returns-clause-events
returns-clause-events c = record {
  frames = λ before after port answer octets told_before told a. (
    λ closed. (a.closed closed).0,
    λ no. (λ past. (a.refused (opened _ no) (λ lt. absurd (omega (arith, lt, past)))).0, λ is. a.allowed (opened _ no) (there _ _ is)),
  );
  links = λ before after port answer up told_before told a. (
    λ closed. (a.closed closed).0,
    λ no. (λ past. (a.refused (opened _ no) (λ lt. absurd (omega (arith, lt, past)))).0, λ is. a.allowed (opened _ no) (there _ _ is)),
  );
  commands = λ before after line show_before show answer told_before told o. (
    λ closed. (o.closed closed).0,
    λ no. (
      λ fault e. said_wrong _ _ _ _ _ _ _ _ fault (o.obeyed (opened _ no)).1 e,
      λ command e. said_right _ _ _ _ _ _ _ command (subst (λ (r : Result Command CommandFault). Obeys r before.held.agent show_before told_before answer after.held.agent show told) e (o.obeyed (opened _ no)).1),
    ),
  );
  ticks = λ before after asked answer marks_before marks told_before told t. (λ closed. (t.closed closed).0, λ no. (t.taken (opened _ no)).0);
  leaving = λ before after answer marks_before marks l. (λ closed. (l.closed closed).0, λ no. (l.left (opened _ no)).0);
}
