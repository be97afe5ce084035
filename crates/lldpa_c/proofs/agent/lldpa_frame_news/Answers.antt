use Rattle.std.proofs.Common.{◌≡◌, ◌<◌, length, refl, ap, subst, sym, ◌∙◌, arith}
use Rattle.lldp_engine.specs.AgentState.{AgentState}
use Rattle.lldp_engine.specs.Event.{frame}
use Rattle.lldp_engine.specs.Told.{Told, Tells, told_of}
use Rattle.lldp_engine.specs.Code.Telling.{agent_told}
use Rattle.lldpa_c.specs.Agent.{Steps}
use Rattle.lldpa_c.specs.News.{news_number, news_fault, news_name}
use Rattle.lldpa_c.proofs.Newly.{holds_name_told}
use Rattle.lldpa_c.proofs.agent.lldpa_frame_news.Goals as goal

pub returns-clause-news : goal.returns-clause-news
returns-clause-news c _ =
    let before = c.args.agent.now.held.agent in
    let event = frame c.args.port c.args.octets.now in
    let was : c.deref_mut.result.now ≡ before = c.deref_mut.ensures.value ∙ c.in-Some.ensures.some.1 in
    let told : told_of c.step_told-told.result ≡ agent_told event before = c.step_told-told.ensures.told ∙ ap (agent_told event) was in
    record {
      what = c.news_of.ensures.what ∙ ap news_number told;
      fault = c.news_of.ensures.fault ∙ ap news_fault told;
      none = λ none. c.news_of.ensures.none (ap news_name told ∙ none);
      named = λ name is. holds_name_told before c.args.port c.args.octets.now c.news_of.result name is (c.news_of.ensures.named name (ap news_name told ∙ is));
    }

pub returns-clause-step : goal.returns-clause-step
returns-clause-step c _ =
    let before = c.args.agent.now.held.agent in
    let after = c.put-2.new.self.held.agent in
    let event = frame c.args.port c.args.octets.now in
    let was : c.deref_mut.result.now ≡ before = c.deref_mut.ensures.value ∙ c.in-Some.ensures.some.1 in
    let told : told_of c.step_told-told.result ≡ agent_told event before = c.step_told-told.ensures.told ∙ ap (agent_told event) was in
    let is : after ≡ c.step_told-told.new.self = c.put-2.ensures.agent in
    subst (λ (agent : AgentState). Tells event agent after (agent_told event before)) was
    (subst (λ (agent : AgentState). Tells event c.deref_mut.result.now agent (agent_told event before)) (sym is)
    (subst (λ (t : Told). Tells event c.deref_mut.result.now c.step_told-told.new.self t) told c.step_told-told.ensures.tells))

pub returns-clause-answer : goal.returns-clause-answer
returns-clause-answer c =
    let before = c.args.agent.now.held.agent in
    let after = c.put-2.new.self.held.agent in
    let event = frame c.args.port c.args.octets.now in
    let was : c.deref_mut.result.now ≡ before = c.deref_mut.ensures.value ∙ c.in-Some.ensures.some.1 in
    let seen : c.deref.result.now ≡ before = c.deref.ensures ∙ c.in-Some.ensures.some.1 in
    let step = c.step_told-told.ensures in
    let sent = c.step_told-told.new.marks.items in
    let steps : Steps c.deref_mut.result.now event c.step_told-told.new.self sent = record {
      next = step.after;
      marks = step.marks;
      ports = step.sent;
      stands = step.stands;
      marks_past = step.marks_past;
      headline = step.headline;
      sending = step.sending;
    } in
    let is : after ≡ c.step_told-told.new.self = c.put-2.ensures.agent in
    let there : c.args.port < length before.ports = omega (arith, c.if-port-from.false, c.from.ensures, c.ports.ensures.value, ap (λ (agent : AgentState). length agent.ports) seen) in
    record {
      taken = λ _. record {
        open_before = c.in-Some.ensures.some.0;
        open_after = c.put-2.ensures.is_open;
        allowed = there;
        sent = sent;
        told_are = record { count = c.tell.ensures.count; items = c.tell.ensures.items };
        steps = subst (λ (agent : AgentState). Steps agent event after sent) was (subst (λ (agent : AgentState). Steps c.deref_mut.result.now event agent sent) (sym is) steps);
      };
      closed = λ no. let yes = c.in-Some.ensures.some.0 in absurd cc;
      allowed = λ _ _. refl;
      refused = λ _ not. absurd (not there);
    }
