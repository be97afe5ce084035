use Rattle.std.proofs.Common.{◌≡◌, ap}
use Rattle.lldp_pdu.specs.Capabilities.{caps_fields}
use Rattle.lldp_text.specs.Capabilities.{capabilities_text}
use Rattle.lldp_text.proofs.TextJoined.{behind}
use Rattle.lldp_text.proofs.kept_tlv.write_system_capabilities.Goals as goal

pub returns-clause-value : goal.returns-clause-value
returns-clause-value g c =
    let e : c.unwrap.result ≡ caps_fields c.args.body.now = cc in
    behind _ _ _ _ _ _ c.text.ensures c.write_capabilities.ensures.value (ap capabilities_text e)
