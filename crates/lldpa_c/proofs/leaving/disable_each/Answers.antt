use Rattle.std.proofs.Common.{◌≡◌, ◌<◌, ℕ, length, ap, subst, ◌∙◌, arith}
use Rattle.lldp_engine.specs.AgentState.{AgentState}
use Rattle.lldp_engine.specs.Standing.{Stands}
use Rattle.lldpa_c.specs.Leaving.{left, sent_leaving, with_leaving}
use Rattle.lldpa_c.proofs.Disabling.{ports_left, each_disabled, all_sent}
use Rattle.lldpa_c.proofs.leaving.disable_each.Goals as goal

pub disable-requires : goal.disable-requires
disable-requires c =
    let before = c.args.agent.now in
    let l = c.loop-port in
    let lt : l.port < length before.ports = omega (arith, c.loop-port-test.true, c.ports-port-end.ensures.value) in
    omega (arith, lt, ap (λ (a : AgentState). length a.ports) l.invariant.is, ports_left before l.port (omega (arith, lt)))

pub returns : goal.returns
returns c =
    let before = c.args.agent.now in
    let l = c.loop-port in
    let all : l.port ≡ length before.ports = omega (arith, l.auto.port-end, c.loop-port-test.false, c.ports-port-end.ensures.value) in
    let is : l.agent ≡ left (length before.ports) before = l.invariant.is ∙ ap (λ (n : ℕ). left n before) all in
    let sent = l.invariant.sent ∙ ap (λ (n : ℕ). sent_leaving n before) all in
    record {
      is = is;
      sent_are = sent;
      shutdowns_are = sent ∙ all_sent before;
      disabled = each_disabled before l.agent is;
      stands = λ past s. subst (λ (n : ℕ). Stands (with_leaving n past) l.agent) all (l.invariant.stands past s);
    }
