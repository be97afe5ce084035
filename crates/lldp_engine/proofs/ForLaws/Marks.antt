-- What a port sends at the last event is its last mark. A port whose mark is Quiet sends nothing.
use Rattle.std.proofs.Common.{◌≡◌, ℕ, ◌+◌, ◌<◌, length, ap, ◌∙◌, subst, sym, arith}
use Rattle.std.specs.List.{Contains}
use Rattle.std.proofs.lemmas.List.Elements.{All-from_recursion, All-contains}
use Rattle.lldp_transmit.specs.declared.event.Mark.{Mark}
use Rattle.lldp_transmit.specs.declared.event.Mark.TheVariants.{Quiet}
use Rattle.lldp_engine.specs.Frames.{IsSent}
use Rattle.lldp_engine.specs.Past.{Past, past_of, port_past, marks_of}
use Rattle.lldp_engine.specs.Laws.PortAt.{Sends}
use Rattle.lldp_engine.specs.Port.Past.{mark_after}
use Rattle.lldp_engine.proofs.Headline.Answered.{IsOf, all_are, is_there}

-- If `Sends` holds, port i exists, the mark is not Quiet, and it is the port's last mark.
pub sent_is : (past : Past) (i : ℕ) (mark : Mark) → Sends past i mark → (i < length past.options.names) × IsSent mark × (mark_after past.options (past_of past i) ≡ mark)
sent_is past i mark h =
    let all = All-from_recursion (IsOf past.options past.events 0) (marks_of past) (all_are past.options past.events 0 past.options.names (omega arith)) in
    let is : IsOf past.options past.events 0 (i, mark) = All-contains (IsOf past.options past.events 0) (marks_of past) (i, mark) all h in
    (is.1, is.2, is.3)

pub is_sent : (past : Past) (i : ℕ) (mark : Mark) → i < length past.options.names → IsSent mark → mark_after past.options (past_of past i) ≡ mark → Sends past i mark
is_sent past i mark lt sent e =
    let place : 0 + i ≡ i = omega arith in
    let is : mark_after past.options (port_past (0 + i) past.events) ≡ mark = ap (λ (k : ℕ). mark_after past.options (port_past k past.events)) place ∙ e in
    subst (λ (k : ℕ). Contains (marks_of past) (k, mark)) place (is_there past.options past.events 0 i past.options.names mark lt sent is)

-- a quiet port sends nothing
pub quiet_is_silent : (past : Past) (i : ℕ) (mark : Mark) → mark_after past.options (past_of past i) ≡ Quiet → ¬ (Sends past i mark)
quiet_is_silent past i mark e h =
    let is = sent_is past i mark h in
    subst IsSent (sym is.2 ∙ e) is.1
