use Rattle.std.proofs.Common.{◌≡◌, ◌*◌, ◌≤◌, length, take}
use Rattle.lldp_text.specs.Text.{escaped}
use Rattle.lldp_text.proofs.tail.escaped_len.Given as goal

abbrev pub invariant-loop-octet : goal.invariant-loop-octet
invariant-loop-octet l = (l.len ≡ length (escaped (take l.octet-index l.octets))) × (l.len ≤ 4 * l.octet-index)
