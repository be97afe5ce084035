use Rattle.std.proofs.Common.{ap}
use Rattle.lldp_pdu.specs.Msap.{MsapId}
use Rattle.lldp_pdu.specs.Info.{LldpInfo}
use Rattle.lldp_pdu.proofs.laws.examined_lldpdus_are_told.Goals as goal

pub returns-clause-shutdown : goal.returns-clause-shutdown
returns-clause-shutdown c = λ octets name h. record {
  ttl = h.0;
  chassis = ap (λ (m : MsapId). m.chassis) h.1;
  port = ap (λ (m : MsapId). m.port) h.1;
}

pub returns-clause-info : goal.returns-clause-info
returns-clause-info c = λ octets info h within. record {
  lives = rw h.1 h.0;
  ttl = ap (λ (i : LldpInfo). i.ttl) h.1;
  chassis = ap (λ (i : LldpInfo). i.msap.chassis) h.1;
  port = ap (λ (i : LldpInfo). i.msap.port) h.1;
  octets_are = ap (λ (i : LldpInfo). i.octets) h.1;
  short = within;
  kept = ap (λ (i : LldpInfo). i.kept) h.1;
  discarded = ap (λ (i : LldpInfo). i.discarded) h.1;
  unrecognized = ap (λ (i : LldpInfo). i.unrecognized) h.1;
}
