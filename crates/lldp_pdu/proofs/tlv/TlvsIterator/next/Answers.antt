use Rattle.lldp_pdu.specs.View.{tlv_view}
use Rattle.lldp_pdu.proofs.Cuts.{gives_none, gives_some, fewer_tlvs}
use Rattle.lldp_pdu.proofs.tlv.TlvsIterator.next.Goals as goal

pub returns-in_err-tlv-clause-steps : goal.returns-in_err-tlv-clause-steps
returns-in_err-tlv-clause-steps c = rw c.from_residual.ensures (gives_none c.args.self.now c.self.inside.rest.now c.self.view_is c.in_err-tlv.ensures)

pub returns-clause-steps : goal.returns-clause-steps
returns-clause-steps c = gives_some c.args.self.now c.self.inside.rest.now (tlv_view c.in_ok-tlv.tlv) c.in_ok-tlv.rest.now c.self.view_is c.in_ok-tlv.ensures

pub returns-clause-goes : goal.returns-clause-goes
returns-clause-goes c =
    let e = gives_some c.args.self.now c.self.inside.rest.now (tlv_view c.in_ok-tlv.tlv) c.in_ok-tlv.rest.now c.self.view_is c.in_ok-tlv.ensures in
    record { on = λ _. (tt, tt, fewer_tlvs c.args.self.now c.in_ok-tlv.rest.now (tlv_view c.in_ok-tlv.tlv) e.0); keeps = tt; rests = λ _. tt }
