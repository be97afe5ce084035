use Rattle.std.proofs.Common.{◌≡◌, ◌+◌, ◌*◌, ◌≤◌, ◌++◌, length, take}
use Rattle.lldp_text.specs.Addresses.{ipv6_text}
use Rattle.lldp_text.proofs.addresses.write_ipv6.Given as goal

abbrev pub invariant-loop-i : goal.invariant-loop-i
invariant-loop-i g l = (g.L.Append.held l.line ≡ (g.L.Append.held l.fn.line) ++ ipv6_text (take (2 * l.i) l.octets)) × (length (g.L.Append.held l.line) ≤ length (g.L.Append.held l.fn.line) + 5 * l.i)
