use Rattle.std.proofs.Common.{◌+◌, ◌*◌, ◌≤◌, length}
use Rattle.lldp_text.specs.Capabilities.{is_set, capability_text}
use Rattle.lldp_text.proofs.CapabilitiesWritten.{Written}
use Rattle.lldp_text.proofs.capabilities.write_capabilities.Given as goal

abbrev pub invariant-loop-bit : goal.invariant-loop-bit
invariant-loop-bit g l =
    Written (is_set l.caps.available) (capability_text l.caps) (g.L.Append.held l.fn.line) (g.L.Append.held l.line) l.written l.bit × (length (g.L.Append.held l.line) ≤ length (g.L.Append.held l.fn.line) + 13 * l.bit) × (l.written ≤ l.bit)
