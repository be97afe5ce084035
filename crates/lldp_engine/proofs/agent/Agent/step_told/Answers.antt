use Rattle.std.proofs.Common.{rules, ◌≡◌, ◌<◌, ℕ, length, ap, sym, ◌∙◌, subst, arith}
use Rattle.std.specs.List.{AllByRecursion}
use Rattle.lldp_table.specs.Code.Room.{with_items}
use Rattle.lldp_table.proofs.Slots.Room.{with_items_is}
use Rattle.lldp_transmit.specs.declared.event.Mark.{Mark}
use Rattle.lldp_engine.specs.Event.{event_of}
use Rattle.lldp_engine.specs.AgentState.{AgentState, Allows}
use Rattle.lldp_engine.specs.Frames.{IsSent}
use Rattle.lldp_engine.specs.Past.{with_event}
use Rattle.lldp_engine.specs.Sound.{AreSound}
use Rattle.lldp_engine.specs.Standing.{Stands}
use Rattle.lldp_engine.specs.Code.Step.{agent_after, agent_marks, ports_step}
use Rattle.lldp_engine.proofs.OnePort.Allowed.{configured-capacity}
use Rattle.lldp_engine.proofs.Headline.Promise.{have_sent_exactly}
use Rattle.lldp_engine.proofs.Headline.Answered.{promised_step}
use Rattle.lldp_engine.proofs.OnePort.Heard.{octets_of_port}
use Rattle.lldp_engine.specs.Told.{told_of}
use Rattle.lldp_engine.proofs.AllPorts.Telling.{told_truly}
use Rattle.lldp_engine.proofs.AllPorts.Sound.{AllSound, can_take, stay_sound, ports_number}
use Rattle.lldp_engine.proofs.Standing.Carrying.{carries, marks_carry}
use Rattle.lldp_engine.proofs.Standing.Step.{allowed_short, steps_to, marks_to, marks_sent}
use Rattle.lldp_engine.proofs.agent.Agent.step_told.Goals as goal
use Rattle.lldp_engine.specs.Code.Whose.{whose}

pub take-requires : goal.take-requires
take-requires g c = allowed_short c.args.self.now (event_of c.args.event) c.requires

pub take_event-requires-clause-can : goal.take_event-requires-clause-can
take_event-requires-clause-can g c =
    let e = event_of c.args.event in
    let allowed = subst (λ (a : AgentState). Allows a e) (sym c.self.view_is) c.requires in
    rw (c.whose.ensures.value, c.as_mut_slice.ensures.value) (can_take _ e allowed c.self.invariant.0.sound)

pub returns-clause-after : goal.returns-clause-after
returns-clause-after g c =
    let e = event_of c.args.event in
    let same_length = ap length c.as_mut_slice.ensures.value in
    let is : (with_items c.self.inside.ports c.take_event.new.ports).items ≡ c.take_event.new.ports = with_items_is c.self.inside.ports c.take_event.new.ports (omega (arith, same_length)) in
    subst (λ (a : AgentState). (let b : AgentState = record { configuration = c.take.new.self; ports = (with_items c.self.inside.ports c.take_event.new.ports).items } in b) ≡ agent_after e a) c.self.view_is
    (steps_to _ e c.take.new.self c.interval-interval.result c.as_mut_slice.result.now _ c.take.ensures c.interval-interval.ensures c.as_mut_slice.ensures.value (is ∙ rw c.whose.ensures.value at c.take_event.ensures.after))

pub returns-clause-marks : goal.returns-clause-marks
returns-clause-marks g c =
    let e = event_of c.args.event in
    subst (λ (a : AgentState). c.take_event.new.marks.items ≡ agent_marks e a) c.self.view_is
    (marks_to _ e c.take.new.self c.interval-interval.result c.as_mut_slice.result.now _ c.take.ensures c.interval-interval.ensures c.as_mut_slice.ensures.value (rw c.whose.ensures.value at c.take_event.ensures.marks))

pub returns-clause-sent : goal.returns-clause-sent
returns-clause-sent g c =
    let e = event_of c.args.event in
    let ports = c.as_mut_slice.result.now in
    let n = c.interval-interval.result in
    let same_length = ap length c.as_mut_slice.ensures.value in
    let is : (with_items c.self.inside.ports c.take_event.new.ports).items ≡ c.take_event.new.ports = with_items_is c.self.inside.ports c.take_event.new.ports (omega (arith, same_length)) in
    let number = ports_number (whose e) n 0 ports in
    let new : length (with_items c.self.inside.ports c.take_event.new.ports).items ≡ length ports = ap length (is ∙ rw c.whose.ensures.value at c.take_event.ensures.after) ∙ number in
    subst (λ (m : ℕ). AllByRecursion (λ (x : ℕ × Mark). (x.0 < m) × IsSent x.1) c.take_event.new.marks.items) (sym new)
    (rw (c.take_event.ensures.marks, c.whose.ensures.value) (marks_sent (whose e) n 0 (length ports) ports (omega arith)))

pub returns-clause-stands : goal.returns-clause-stands
returns-clause-stands g c = λ past h.
    let e = event_of c.args.event in
    subst (Stands (with_event past e)) (sym (returns-clause-after g c)) (carries past e c.args.self.now h c.requires c.whose.ensures.octets)

pub returns-clause-marks_past : goal.returns-clause-marks_past
returns-clause-marks_past g c = λ past h. returns-clause-marks g c ∙ marks_carry past (event_of c.args.event) c.args.self.now h c.requires c.whose.ensures.octets

pub returns-clause-headline : goal.returns-clause-headline
returns-clause-headline g c = λ past h. promised_step past (event_of c.args.event) c.take_event.new.marks.items _ (returns-clause-marks_past g c past h) (returns-clause-stands g c past h)

pub returns-clause-sending : goal.returns-clause-sending
returns-clause-sending g c = λ past h. have_sent_exactly (with_event past (event_of c.args.event)) _ (returns-clause-stands g c past h)

pub invariant_of-self : goal.invariant_of-self
invariant_of-self g c =
    let e = event_of c.args.event in
    let allowed = subst (λ (a : AgentState). Allows a e) (sym c.self.view_is) c.requires in
    let same_length = ap length c.as_mut_slice.ensures.value in
    let is : (with_items c.self.inside.ports c.take_event.new.ports).items ≡ c.take_event.new.ports = with_items_is c.self.inside.ports c.take_event.new.ports (omega (arith, same_length)) in
    let room : c.self.inside.configuration.capacity ≡ c.take.new.self.capacity = sym (configured-capacity e c.self.inside.configuration) ∙ ap (λ x. x.capacity) (sym c.take.ensures) in (
      subst (λ (k : ℕ). AreSound k (with_items c.self.inside.ports c.take_event.new.ports).items) room
          (stay_sound c.self.inside.configuration.capacity (whose e) c.interval-interval.result c.self.inside.ports.items _ (is ∙ (rw c.whose.ensures.value at c.take_event.ensures.after) ∙ ap (ports_step (whose e) c.interval-interval.result 0) c.as_mut_slice.ensures.value)
          (λ k. octets_of_port k e c.whose.ensures.octets) (can_take _ e allowed c.self.invariant.0.sound) c.self.invariant.0),
      λ some. absurd (omega (arith, some)),
    )

pub returns-clause-told : goal.returns-clause-told
returns-clause-told g c = search rules

pub returns-clause-tells : goal.returns-clause-tells
returns-clause-tells g c =
    let capacity = c.self.inside.configuration.capacity in
    let sound = subst (λ (a : AgentState). AllSound capacity a.ports) c.self.view_is c.self.invariant.0.sound in
    told_truly capacity (event_of c.args.event) c.args.self.now _ (told_of c.take_event.result) sound (returns-clause-after g c) (returns-clause-told g c)

pub take_event-requires-clause-few : goal.take_event-requires-clause-few
take_event-requires-clause-few g c = rw c.as_mut_slice.ensures.value c.self.invariant.0.few
