use Rattle.std.proofs.Common.{◌≡◌, ◌+◌, ◌*◌, ◌≤◌, ◌++◌, length, take}
use Rattle.lldp_text.specs.Text.{escaped}
use Rattle.lldp_text.proofs.writing.Writer.escaped.Given as goal

abbrev pub invariant-loop-octet : goal.invariant-loop-octet
invariant-loop-octet l = (l.self ≡ l.fn.self ++ escaped (take l.octet-index l.octets)) × (length l.self ≤ length l.fn.self + 4 * l.octet-index)
