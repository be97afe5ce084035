use Rattle.std.proofs.Common.{◌≡◌, ◌+◌, [], length, drop, ap, ◌∙◌, arith, rules, ℕ, List, subst}
use Rattle.std.proofs.lemmas.List.{length-drop}
use Rattle.lldp_table.specs.Contents.{Contents}
use Rattle.lldp_engine.specs.NeighborLines.{numbered_lines, neighbor_lines}
use Rattle.lldp_engine.proofs.Lines.Taken.{takes_none, takes_more, takes_all, takes_then}
use Rattle.lldp_engine.proofs.show.neighbor_lines.put_numbered.Goals as goal
use Rattle.lldp_table.specs.Events.{Neighbor}
use Rattle.lldp_engine.specs.Takes.{Takes}

-- the lines of a neighbor for an equal name of the port
named : {S : Type 0} (T : S → S → List ℕ → Type 0) (before after : S) (found name : List ℕ) (number : ℕ) (neighbor : Neighbor) → found ≡ name
    → Takes T before after (neighbor_lines found number neighbor) → Takes T before after (neighbor_lines name number neighbor)
named T before after found name number neighbor e = subst (λ (x : List ℕ). Takes T before after (neighbor_lines x number neighbor)) e

pub returns-then-is_done : goal.returns-then-is_done
returns-then-is_done g c = rw (← c.loop-entry.invariant.taken.1) (takes_then _ _ _ _ c.loop-entry.invariant.taken.0 _ c.loop-entry.invariant.taken.2 (takes_all _ _ _ (c.is_done.ensures c.if-is_done.true)))

pub loop-entry-preserved : goal.loop-entry-preserved
loop-entry-preserved g c = record {
  few = search rules;
  taken = takes_more _ _ _ _ _ _ _ (rw c.in-Some.ensures.steps at c.loop-entry.invariant.taken) (named _ _ _ _ _ _ c.in-Some.entry c.name.ensures.value c.put_neighbor.ensures);
}

pub loop-entry-init : goal.loop-entry-init
loop-entry-init g c =
    let sound = c.entries-entries.ensures.sound in
    let port = c.args.port.now in
    let held : c.table.result.now.shown.neighbors ≡ port.table.neighbors = ap (λ (t : Contents). t.neighbors) c.table.ensures in
    let left : c.into_iter-entry-iterator.result ≡ drop c.args.first port.table.neighbors =
    c.into_iter-entry-iterator.ensures.into_iter_gives ∙ c.pass.ensures ∙ ap (drop c.args.first) (c.entries-entries.ensures.value ∙ held) in
    record {
      few = omega (arith, c.requires, ap length left, length-drop c.args.first port.table.neighbors, sound.few, sound.room, sound.most, ap length held);
      taken = ([], ap (numbered_lines port.name (c.args.first + 1)) left, takes_none _ _);
    }
