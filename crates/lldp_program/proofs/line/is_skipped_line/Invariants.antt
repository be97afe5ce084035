use Rattle.std.proofs.Common.{◌≡◌, drop}
use Rattle.lldp_program.specs.Trace.Forms.{is_skipped}
use Rattle.lldp_program.proofs.line.is_skipped_line.Given as goal

-- the remaining octets decide whether the line is skipped
abbrev pub invariant-loop-octet : goal.invariant-loop-octet
invariant-loop-octet l = is_skipped (drop l.octet-index l.line) ≡ is_skipped l.line
