use Rattle.std.proofs.Common.{◌≤◌, ℕ, List, length, take, drop, ap, sym, subst, ◌∙◌}
use Rattle.std.proofs.lemmas.Bool.{not-true, not-false}
use Rattle.lldp_engine.specs.Lines.{lines_of}
use Rattle.lldpa_c.specs.Filled.{Fills, IsFull}
use Rattle.lldpa_c.proofs.Coming.{all_come, fills, ends, is_full}
use Rattle.lldpa_c.proofs.lines.fill.Goals as goal

-- when the sink's borrow ends, the caller's buffer is as the sink left it
pub returns : goal.returns
returns c =
    let lines = lines_of c.args.show c.args.agent.now in
    let sink = c.take.new.self in
    let come = all_come _ _ _ _ _ _ (ap length c.new-filling.ensures.room) c.new-filling.ensures.view c.take.ensures.lines c.ranges.from.fits c.take.ensures.few in
    let is = c.room-1.given.1.1 (sym (c.take.ensures.same ∙ c.new-filling.ensures.same)) in
    record {
      same = c.take.ensures.agent;
      within = subst (λ (n : ℕ). sink.used ≤ n) (sym c.room-1.given.1.0) come.within;
      octets = subst (λ (room : List ℕ). Fills lines c.args.from sink.next (take sink.used room)) (sym is) (fills _ _ _ _ come);
      rest = ap (drop sink.used) is ∙ c.take.ensures.rest.rest ∙ ap (drop sink.used) c.new-filling.ensures.room;
      done = λ h. ends _ _ _ _ come (not-true _ h);
      full = λ h. subst (λ (n : ℕ). IsFull lines sink.next n sink.used) (sym c.room-1.given.1.0) (is_full _ _ _ _ come (not-false _ h));
    }
