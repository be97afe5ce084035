-- After a step the machine represents its history with the event; the answer is the event's mark.
use Rattle.lldp_transmit.specs.History.{event}
use Rattle.lldp_transmit.proofs.Standing.{carries, marks}
use Rattle.lldp_transmit.proofs.Answered.{bounded_with, stops_rarely_with, earliest_with, ordinary_with, shutdown_with}
use Rattle.lldp_transmit.proofs.machine.Transmit.event.Goals as goal

pub returns-clause-stands : goal.returns-clause-stands
returns-clause-stands c = λ s past k. rw (c.step.ensures.next, c.self.view_is) (carries s past c.args.self.now (event c.args.cause c.args.interval) k)

pub returns-clause-mark : goal.returns-clause-mark
returns-clause-mark c = λ s past k. rw (c.step.ensures.answer, c.self.view_is) (marks s past c.args.self.now (event c.args.cause c.args.interval) k)

pub returns-clause-ordinary : goal.returns-clause-ordinary
returns-clause-ordinary c = λ s past k. ordinary_with s past (event c.args.cause c.args.interval) c.step.result (returns-clause-mark c s past k) k.in_range

pub returns-clause-shutdown : goal.returns-clause-shutdown
returns-clause-shutdown c = λ s past k. shutdown_with s past (event c.args.cause c.args.interval) c.step.result (returns-clause-mark c s past k)

pub returns-clause-bounded : goal.returns-clause-bounded
returns-clause-bounded c = λ s past k. bounded_with s past (event c.args.cause c.args.interval) c.step.result (returns-clause-mark c s past k) k.in_range

pub returns-clause-few_stops : goal.returns-clause-few_stops
returns-clause-few_stops c = λ s past k. stops_rarely_with s past (event c.args.cause c.args.interval) c.step.result (returns-clause-mark c s past k) k.in_range

pub returns-clause-earliest : goal.returns-clause-earliest
returns-clause-earliest c = λ s past k. earliest_with s past (event c.args.cause c.args.interval) c.step.result (returns-clause-mark c s past k)
