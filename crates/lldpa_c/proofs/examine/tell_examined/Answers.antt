use Rattle.std.proofs.Common.{◌≡◌, ℕ, ◌<◌, ◌≤◌, List, length, None, ap, sym, subst, ◌∙◌, refl, arith}
use Rattle.lldp_pdu.specs.Tlv.{AreOctets}
use Rattle.lldp_pdu.specs.Fault.{fault_of}
use Rattle.lldp_pdu.specs.Lldpdu.{extent, ttl_of, msap_of}
use Rattle.lldp_pdu.specs.View.{msap_view}
use Rattle.lldp_pdu.specs.Info.{LldpInfo, info_of}
use Rattle.lldp_pdu.proofs.Cuts.{AreOctets-from_index}
use Rattle.lldpa_c.specs.Examined.{Tells, told_gone, told_alive}
use Rattle.lldpa_c.proofs.Places.{chassis_lies, port_lies, extent_lies}
use Rattle.lldpa_c.proofs.examine.tell_examined.Goals as goal

gone : (octets : List ℕ) → ttl_of octets ≡ 0 → fault_of octets ≡ None → Tells octets (told_gone (msap_of octets))
gone octets z h = record {
  ttl = sym z;
  chassis = chassis_lies octets h;
  port = port_lies octets h;
  life = λ lives. absurd (omega (arith, z, lives));
  gone = λ _. record { extent = refl; discarded = refl; unrecognized = refl };
}

alive : (octets : List ℕ) → AreOctets octets → length (extent octets) ≤ length octets → 0 < ttl_of octets → fault_of octets ≡ None → Tells octets (told_alive (info_of octets))
alive octets fits within lives h = record {
  ttl = refl;
  chassis = chassis_lies octets h;
  port = port_lies octets h;
  life = λ _. record { within = within; extent = extent_lies octets fits; discarded = refl; unrecognized = refl };
  gone = λ z. absurd (omega (arith, z, lives));
}

fits : (c : goal.After-alive) → AreOctets c.args.pdu.now
fits c = AreOctets-from_index c.args.pdu.now (λ i. omega (arith, c.type_inv.pdu i))

pub returns-in-Ok-Shutdown-clause-told : goal.returns-in-Ok-Shutdown-clause-told
returns-in-Ok-Shutdown-clause-told c h =
    let octets = c.args.pdu.now in
    let a : (ttl_of octets ≡ 0) × (msap_view c.in-Ok-Shutdown.msap ≡ msap_of octets) = rw c.in-Ok-Shutdown.field-0-is at c.in-Ok-Shutdown.ensures.answer in
    subst (Tells octets) (ap told_gone (sym a.1) ∙ sym c.gone.ensures) (gone octets a.0 h)

pub returns-in-Ok-Info-clause-told : goal.returns-in-Ok-Info-clause-told
returns-in-Ok-Info-clause-told c h =
    let octets = c.args.pdu.now in
    let a : (0 < ttl_of octets) × (c.in-Ok-Info.info ≡ info_of octets) = rw c.in-Ok-Info.field-0-is at c.in-Ok-Info.ensures.answer in
    let within : length (extent octets) ≤ length octets = subst (λ (i : LldpInfo). length i.octets ≤ length octets) a.1 (rw c.in-Ok-Info.field-0-is at c.in-Ok-Info.ensures.within) in
    subst (Tells octets) (ap told_alive (sym a.1) ∙ sym c.alive.ensures) (alive octets (fits c) within a.0 h)
