use Rattle.std.proofs.Common.{length, [], ◌∷◌, length-append, add-one, ap, arith, ◌∙◌}
use Rattle.lldp_engine.specs.Options.{options_of}
use Rattle.lldp_engine.specs.Code.PortStep.{opened_port}
use Rattle.lldp_engine.proofs.Standing.Opened.{next_named, next_port}
use Rattle.lldp_engine.proofs.agent.ports.open_ports.Goals as goal

pub open-requires-in-loop-name-clause-name : goal.open-requires-in-loop-name-clause-name
open-requires-in-loop-name-clause-name g c =
    let next = next_named c.args.options.now.ports.now c.loop-name.name-index (record { ref_ptr = (0, 0); now = [] }) c.loop-name-test.true c.loop-name.invariant.named in
    rw c.as_bytes.ensures.value next.0

pub loop-name-preserved : goal.loop-name-preserved
loop-name-preserved g c =
    let i = c.loop-name.name-index in
    let names = c.args.options.now.ports.now in
    let named = next_named names i (record { ref_ptr = (0, 0); now = [] }) c.loop-name-test.true c.loop-name.invariant.named in
    let added = ap length c.push.ensures.items ∙ length-append c.loop-name.ports.items (c.in_ok-open.field-0 ∷ []) in
    rw add-one (record {
      ports = next_port (opened_port (options_of c.args.options.now)) names i _ c.loop-name.ports.items c.push.new.self.items c.in_ok-open.field-0 c.as_bytes.result.now
          c.loop-name-test.true c.loop-name.invariant.ports c.as_bytes.ensures.value c.in_ok-open.ensures c.push.ensures.items;
      room = c.push.ensures.capacity ∙ c.loop-name.invariant.room;
      count = omega (arith, added, c.loop-name.invariant.count);
      named = named.1;
    })
