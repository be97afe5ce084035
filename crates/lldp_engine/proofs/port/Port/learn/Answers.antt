use Rattle.std.proofs.Common.{arith, refl, ap, ◌∙◌, length, List}
use Rattle.lldp_table.specs.Outcomes.{learned_of}
use Rattle.lldp_table.proofs.Outcomes.{outcome_answers}
use Rattle.lldp_pdu.specs.Tlv.{TlvUnit}
use Rattle.lldp_table.specs.Contents.{IsHeld}
use Rattle.lldp_table.specs.Code.Steps.{fresh}
use Rattle.lldp_table.proofs.Extents.{kept_is_short}
use Rattle.std.proofs.lemmas.Grind.{common_steps}
use Rattle.lldp_engine.specs.AgentState.{PortState}
use Rattle.lldp_engine.proofs.port.Port.learn.Goals.{in-New, in-Refreshed}
use Rattle.lldp_engine.proofs.port.Port.learn.Goals as goal

pub overflow_cast-unrecognized : goal.overflow_cast-unrecognized
overflow_cast-unrecognized g c =
    let info = c.args.info.now in
    let extent = c.store-outcome.ensures.extent in
    let held : IsHeld (fresh info.msap info.ttl info.octets) = record { extent = extent; lives = extent.lives; left = omega arith } in
    let few = kept_is_short (fresh info.msap info.ttl info.octets) held in
    let kept = ap (λ (us : List TlvUnit). length us) c.store-outcome.ensures.kept in
    omega (arith, few, kept, extent.short, c.unrecognized-unrecognized.ensures.few)

pub returns-clause-after : goal.returns-clause-after
returns-clause-after g c =
    let info = c.args.info.now in
    let answer = c.learned-answer.ensures ∙ ap learned_of c.store-outcome.ensures.outcome ∙ outcome_answers c.self.inside.table.shown info.msap info.ttl info.octets in
    rw (← c.self.view_is, c.count_answer.ensures, answer, c.count_tlvs.ensures, c.store-outcome.ensures.after, c.discarded-discarded.ensures.value, c.unrecognized-unrecognized.ensures.value) refl

pub returns-clause-cause : goal.returns-clause-cause
returns-clause-cause g c =
    let info = c.args.info.now in
    let table = ap (λ (p : PortState). p.table) c.self.view_is in
    let answer = c.learned-answer.ensures ∙ ap learned_of c.store-outcome.ensures.outcome ∙ outcome_answers c.self.inside.table.shown info.msap info.ttl info.octets in
    rw (← table, ← answer) (elim c.match-answer.branch [
      | in-New w ↦ grind (arith, common_steps)
      | in-Refreshed w ↦ grind (arith, common_steps)
    ])
