use Rattle.std.proofs.Common.{◌≡◌, ◌++◌, arith}
use Rattle.std.specs.Int.{w16, to_be_bytes}
use Rattle.lldp_pdu.specs.Tlv.{spelling}
use Rattle.lldp_pdu.proofs.Drafts.{begins}
use Rattle.lldp_pdu.proofs.builder.Builder.begin.Goals as goal
use Rattle.std.proofs.lemmas.Grind.{common_steps}

-- the octets are the encodings of the three TLVs, one after the other
spelled : (c : goal.After-append_tlv-3) → c.append_tlv-3.new.octets.items ≡ spelling (record { kind = 1; body = c.args.chassis.now }) ++ spelling (record { kind = 2; body = c.args.port.now }) ++ spelling (record { kind = 3; body = to_be_bytes w16 c.args.ttl })
spelled c = grind (arith, common_steps)

pub invariant_of-result : goal.invariant_of-result
invariant_of-result c = (begins c.args.chassis.now c.args.port.now c.append_tlv-3.new.octets.items c.args.ttl c.requires.chassis c.requires.port (omega arith) (spelled c)).0

pub returns : goal.returns
returns c = (begins c.args.chassis.now c.args.port.now c.append_tlv-3.new.octets.items c.args.ttl c.requires.chassis c.requires.port (omega arith) (spelled c)).1
