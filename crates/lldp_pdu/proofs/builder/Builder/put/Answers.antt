use Rattle.std.proofs.Common.{sym, arith}
use Rattle.lldp_pdu.specs.Tlv.{TlvUnit}
use Rattle.lldp_pdu.proofs.Drafts.{passes, put_length, puts, long}
use Rattle.lldp_pdu.proofs.builder.Builder.put.Goals as goal

pub append_tlv-requires : goal.append_tlv-requires
append_tlv-requires c =
    let u : TlvUnit = record { kind = c.args.kind; body = c.args.body.now } in
    let p = passes c.args.self.now u (sym c.in_default.ensures) in (
      omega arith,
      (
        omega (arith, p.greatest),
        (
          omega (arith, p.short),
          omega (arith, p.room, put_length c.args.self.now u, long c.args.self.now u c.self.inside.octets.items c.self.inside.met.types c.self.inside.lives c.self.view_is c.self.invariant),
        ),
      ),
    )

pub invariant_of-self : goal.invariant_of-self
invariant_of-self c =
    rw c.add.ensures (puts c.args.self.now (record { kind = c.args.kind; body = c.args.body.now }) c.self.inside.octets.items c.append_tlv.new.octets.items c.self.inside.met.types c.self.inside.lives c.self.view_is c.self.invariant (sym c.in_default.ensures) c.append_tlv.ensures.value).0

pub returns-clause-ok : goal.returns-clause-ok
returns-clause-ok c =
    (puts c.args.self.now (record { kind = c.args.kind; body = c.args.body.now }) c.self.inside.octets.items c.append_tlv.new.octets.items c.self.inside.met.types c.self.inside.lives c.self.view_is c.self.invariant (sym c.in_default.ensures) c.append_tlv.ensures.value).1
