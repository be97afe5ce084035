use Rattle.std.proofs.Common.{◌≡◌, ◌+◌, ◌*◌, ◌≤◌, ◌++◌, length, take}
use Rattle.lldp_text.specs.Addresses.{ipv4_text}
use Rattle.lldp_text.proofs.addresses.write_ipv4.Given as goal

abbrev pub invariant-loop-i : goal.invariant-loop-i
invariant-loop-i g l = (g.L.Append.held l.line ≡ (g.L.Append.held l.fn.line) ++ ipv4_text (take l.i l.octets)) × (length (g.L.Append.held l.line) ≤ length (g.L.Append.held l.fn.line) + 11 * l.i)
