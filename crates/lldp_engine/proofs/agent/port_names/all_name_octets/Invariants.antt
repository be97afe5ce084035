use Rattle.std.proofs.Common.{◌≡◌, drop}
use Rattle.std.specs.List.{list_all}
use Rattle.lldp_engine.specs.Options.{is_name_octet}
use Rattle.lldp_engine.proofs.agent.port_names.all_name_octets.Given as goal

abbrev pub invariant-loop-octet : goal.invariant-loop-octet
invariant-loop-octet l = list_all is_name_octet (drop l.octet-index l.name) ≡ list_all is_name_octet l.name
