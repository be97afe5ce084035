use Rattle.std.proofs.Common.{◌≡◌, ℕ, zero, suc, ◌+◌, Bool, true, false, List, [], ◌∷◌, map, Some, refl, subst, ◌∙◌}
use Rattle.std.specs.Prelude.{◌&&◌, slice_get}
use Rattle.std.specs.List.{AllByRecursion, filter, enumerate_from}
use Rattle.lldp_transmit.specs.declared.event.Mark.{Mark}
use Rattle.lldp_transmit.specs.declared.event.Mark.TheVariants.{Shutdown}
use Rattle.lldp_engine.specs.declared.port.status.Status.TheVariants.{Disabled}
use Rattle.lldp_engine.specs.AgentState.{PortState}
use Rattle.lldp_engine.specs.Status.{transmits}
use Rattle.lldpa_c.specs.declared.holder.LldpaAgent.{LldpaAgent}
use Rattle.lldpa_c.specs.declared.marks.LldpaMarks.{LldpaMarks}
use Rattle.lldpa_c.specs.Leaving.{shutdowns, Left}
use Rattle.lldpa_c.specs.Marks.{TellsMarks}
use Rattle.lldpa_c.specs.Laws.Left.{sends_goodbye, goodbyes, IsSilent}
use Rattle.lldpa_c.specs.Laws.Passed.{AreItems}
use Rattle.lldpa_c.proofs.Items.{are_items}
use Rattle.lldpa_c.proofs.laws.ports_leave_with_a_goodbye.Goals as goal

abbrev goodbyes_from : ℕ → List PortState → List (ℕ × Mark)
goodbyes_from i ports = map (λ numbered. (numbered.0, Shutdown)) (filter sends_goodbye (enumerate_from i ports))

one_more : (b : Bool) (i : ℕ) (port : PortState) (ports : List PortState) → (transmits port.status && port.machine.active) ≡ b → shutdowns (i + 1) ports ≡ goodbyes_from (i + 1) ports
    → shutdowns i (port ∷ ports) ≡ goodbyes_from i (port ∷ ports)
one_more true i port ports e h = rw (e, h) refl
one_more false i port ports e h = rw (e, h) refl

goodbyes_are : (i : ℕ) (ports : List PortState) → shutdowns i ports ≡ goodbyes_from i ports
goodbyes_are i [] = refl
goodbyes_are i (port ∷ ports) = one_more _ i port ports refl (goodbyes_are (i + 1) ports)

disabled_at : (ports : List PortState) (i : ℕ) (port : PortState) → AllByRecursion (λ port. port.status ≡ Disabled) ports → slice_get ports i ≡ Some port → port.status ≡ Disabled
disabled_at [] i port all h = absurd cc
disabled_at (p ∷ ports) zero port all h = let same : p ≡ port = cc in subst (λ (q : PortState). q.status ≡ Disabled) same all.0
disabled_at (p ∷ ports) (suc i) port all h = disabled_at ports i port all.1 h

silent : (port : PortState) → port.status ≡ Disabled → IsSilent port
silent port e = record { hears = λ up frame. rw e refl; sends = rw e refl }

told : (before after : LldpaAgent) (marks_before marks : LldpaMarks) → Left before marks_before 0 after marks → (b : Bool) → before.is_open ≡ b
    → (before.is_open ≡ true) × AreItems (goodbyes before.held.agent) marks
told before after marks_before marks l true e =
    let left = (l.left e).2 in
    (e, are_items _ marks (subst (λ (sent : List (ℕ × Mark)). TellsMarks sent marks) (left.2.shutdowns_are ∙ goodbyes_are 0 before.held.agent.ports) left.1))
told before after marks_before marks l false e = let wrong = (l.closed e).0 in absurd cc

pub returns : goal.returns
returns c = record {
  sent = λ before after sent l. l.shutdowns_are ∙ goodbyes_are 0 before.ports;
  silent = λ before after sent i port l h. silent port (disabled_at after.ports i port l.disabled h);
  past = λ past. refl;
  stands = λ before after sent past l. l.stands past;
  told = λ before after marks_before marks l. told before after marks_before marks l before.is_open refl;
}
