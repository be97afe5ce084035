use Rattle.std.proofs.Common.{◌≡◌, ◌++◌}
use Rattle.lldp_pdu.specs.Frame.{nearest_bridge, lldp_ethertype}
use Rattle.lldp_pdu.specs.Draft.{lldpdu_octets}
use Rattle.lldp_engine.specs.Frames.{frame_of, draft_of}
use Rattle.lldp_engine.proofs.Frames.Says.{framed, says_back}
use Rattle.lldp_engine.proofs.agent.frame.write_frame.Goals as goal

written : (c : goal.After-append_tlv) → c.append_tlv.new.octets.items
    ≡ nearest_bridge ++ c.args.configuration.now.mac ++ lldp_ethertype ++ lldpdu_octets (draft_of c.args.configuration.now c.args.name.now c.args.mark)
written c = framed _ _ _ _ _ c.write_head.ensures.value c.write_tlvs.ensures.value c.append_tlv.ensures.value

pub returns-clause-octets : goal.returns-clause-octets
unfolding frame_of
returns-clause-octets c = written c

pub returns-clause-says : goal.returns-clause-says
returns-clause-says c = says_back _ _ _ c.write_tlvs.ensures.can c.write_tlvs.ensures.mac (written c)
