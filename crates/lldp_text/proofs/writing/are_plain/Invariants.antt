use Rattle.std.proofs.Common.{◌≡◌, ◌&&◌, drop}
use Rattle.std.specs.List.{list_all}
use Rattle.lldp_text.specs.Text.{is_plain}
use Rattle.lldp_text.proofs.writing.are_plain.Given as goal

abbrev pub invariant-loop-octet : goal.invariant-loop-octet
invariant-loop-octet l = (l.all && list_all is_plain (drop l.octet-index l.octets)) ≡ list_all is_plain l.octets
