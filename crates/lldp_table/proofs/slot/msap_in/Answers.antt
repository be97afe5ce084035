use Rattle.std.proofs.Common.{◌≡◌, List, ℕ, arith}
use Rattle.lldp_pdu.specs.Msap.{MsapId}
use Rattle.lldp_pdu.specs.Cut.{cut}
use Rattle.lldp_pdu.specs.Lldpdu.{msap_of, tlv_at}
use Rattle.lldp_table.proofs.Msap.{same_parts}
use Rattle.lldp_table.proofs.slot.msap_in.Goals as goal
use Rattle.std.proofs.lemmas.Grind.{common_steps}

-- the MSAP identifier consists of the bodies of the first two TLVs
parts : (octets start rest chassis port : List ℕ) → start ≡ octets → chassis ≡ (tlv_at (cut start).tlvs 0).body → tlv_at (cut rest).tlvs 0 ≡ tlv_at (cut start).tlvs 1 → port ≡ (tlv_at (cut rest).tlvs 0).body
    → (let msap : MsapId = record { chassis = chassis; port = port } in msap ≡ msap_of octets)
unfolding msap_of
parts octets start rest chassis port s c n p = grind (arith, common_steps, same_parts)

pub returns : goal.returns
returns c = parts _ _ _ _ _ c.new-tlvs.ensures c.next_body-chassis.ensures.first c.next_body-chassis.ensures.second c.next_body-port.ensures.first
