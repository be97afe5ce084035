use Rattle.std.proofs.Common.{◌≡◌, [], arith}
use Rattle.std.proofs.lemmas.Grind.{common_steps}
use Rattle.lldpa_c.proofs.Ticking.{one_more}
use Rattle.lldpa_c.proofs.Stillness.{takes_rest}
use Rattle.lldpa_c.proofs.ticks.take_ticks.Goals as goal

pub loop-taken-preserved : goal.loop-taken-preserved
loop-taken-preserved c =
    let l = c.loop-taken in
    let t = c.tick_once in
    let none : l.sent.items ≡ [] = grind (arith, common_steps, c.is_empty.ensures, c.if-is_empty.true) in
    record {
      few = omega arith;
      so = one_more l.taken l.aged_out t.result.1 c.args.agent.now l.agent t.new.agent l.sent.items t.result.0.items l.invariant.so none c.if-aged_out-eq0.true t.ensures.steps t.ensures.aged_out;
    }

pub returns-then-is_still : goal.returns-then-is_still
returns-then-is_still c =
    let l = c.loop-taken in
    let none : l.sent.items ≡ [] = grind (arith, common_steps, c.is_empty.ensures, c.if-is_empty.true) in
    takes_rest c.args.count l.taken c.args.agent.now l.agent l.sent.items l.aged_out l.invariant.few none c.if-aged_out-eq0.true (c.is_still.ensures c.if-is_still.true) l.invariant.so
