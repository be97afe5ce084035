use Rattle.std.proofs.Common.{◌≡◌, length, drop, ap, ◌∙◌, arith}
use Rattle.std.proofs.lemmas.List.{length-drop}
use Rattle.std.proofs.lemmas.Option.{get_or_from_slice_get}
use Rattle.lldp_table.specs.Contents.{Contents}
use Rattle.lldp_engine.specs.AgentState.{PortState}
use Rattle.lldp_engine.proofs.Lines.Cursors.{port_is, passes_neighbor}
use Rattle.lldp_engine.proofs.show.cursor.pass_neighbors.Goals as goal

pub loop-entry-init : goal.loop-entry-init
loop-entry-init g c =
    let ports = c.args.ports.now in
    let i = c.args.cursor.now.port in
    let n = c.args.cursor.now.neighbor in
    let p = c.index-ports-cursor.result in
    let sound = c.entries-entries.ensures.sound in
    let held : c.table.result.now.shown.neighbors ≡ p.table.neighbors = ap (λ (t : Contents). t.neighbors) c.table.ensures in
    let left : c.into_iter-entry-iterator.result ≡ drop n p.table.neighbors = c.into_iter-entry-iterator.ensures.into_iter_gives ∙ c.pass.ensures ∙ ap (drop n) (c.entries-entries.ensures.value ∙ held) in
    let at = c.requires.cursor.at p (port_is ports i p c.requires.cursor.exists c.index-ports-cursor.is) in
    record {
      at = c.requires.cursor;
      left = λ port is. left ∙ ap (λ (q : PortState). drop n q.table.neighbors) (c.index-ports-cursor.is ∙ get_or_from_slice_get ports i port p is);
      few = omega (arith, at.few, ap length left, length-drop n p.table.neighbors, sound.few, sound.room, sound.most, ap length held);
      before = c.requires.before;
    }

pub loop-entry-preserved : goal.loop-entry-preserved
loop-entry-preserved g c =
    let l = c.loop-entry.invariant in
    let next = passes_neighbor _ _ c.count_lines-lines.result _ _ _ l.at l.left c.in-Some.ensures.steps c.count_lines-lines.ensures.value in
    record {
      at = next.0;
      left = next.1;
      few = omega (arith, l.few, ap length c.in-Some.ensures.steps);
      before = omega (arith, l.before, c.if-lines-from.false);
    }
