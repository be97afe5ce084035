use Rattle.std.proofs.Common.{arith}
use Rattle.lldp_pdu.specs.View.{tlv_view}
use Rattle.lldp_pdu.proofs.Opening.{opens}
use Rattle.lldp_pdu.proofs.examination.mandatory_tlvs.Goals as goal

pub returns-clause-ok : goal.returns-clause-ok
returns-clause-ok c =
    opens c.args.pdu.now c.new-tlvs.result c.next.new.self c.next-2.new.self c.next-3.new.self c.rest.result.now (tlv_view c.in-Some.chassis) (tlv_view c.in-Some-next.port) (tlv_view c.in-Some-next-2.ttl) c.from_be_bytes.result
    c.new-tlvs.ensures c.rest.ensures c.in-Some.ensures.steps.0 c.in-Some-next.ensures.steps.0 c.in-Some-next-2.ensures.steps.0 c.in-Some.ensures.steps.1 c.in-Some-next.ensures.steps.1 c.in-Some-next-2.ensures.steps.1
    c.if-chassis-ne-CHASSIS_ID.false c.if-port-ne-PORT_ID.false c.if-ttl-ne-TIME_TO_LIVE.false (omega arith) (omega arith) (omega arith) (omega arith) (omega arith) (omega (arith, c.from_be_bytes.ensures))
