use Rattle.std.proofs.Common.{drop, sym, subst, ◌∙◌}
use Rattle.lldp_engine.specs.AgentState.{AgentState}
use Rattle.lldp_engine.specs.Code.Skipping.{TakesLater}
use Rattle.lldp_engine.specs.Lines.{lines_of}
use Rattle.lldp_engine.specs.Takes.{Takes}
use Rattle.lldp_engine.proofs.Lines.Later.{from_line, same_sink}
use Rattle.lldp_engine.proofs.agent.Agent.show_from.Goals as goal

-- when the skipping sink's borrow ends, the caller's sink is as it left it
pub returns-clause-value : goal.returns-clause-value
returns-clause-value g c =
    let t = g.S.LineSink.takes in
    let before = c.cursor-cursor.result.before in
    let lines = lines_of c.args.show.now c.args.self.now in
    let later = c.new-later.result in
    let end = c.show_at.new.sink in
    let shown = subst (λ (agent : AgentState). Takes (TakesLater t) later end (drop before (lines_of c.args.show.now agent))) c.cursor-cursor.ensures.same c.show_at.ensures.value in
    let taken = from_line t c.args.from before later end lines c.cursor-cursor.ensures.before c.new-later.ensures.before shown in
    let is = c.sink-1.given.1 (sym (same_sink t later end _ shown ∙ c.new-later.ensures.same)) in
    subst (λ s. Takes t s c.sink-1.given.0 (drop c.args.from lines)) c.new-later.ensures.sink (subst (λ s. Takes t later.sink.now s (drop c.args.from lines)) (sym is) taken)
