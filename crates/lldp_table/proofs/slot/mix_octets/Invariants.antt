-- The octets before this one are already mixed in.
use Rattle.std.proofs.Common.{◌≡◌, drop}
use Rattle.lldp_table.specs.Code.Stored.{mixed}
use Rattle.lldp_table.proofs.slot.mix_octets.Given as goal

abbrev pub invariant-loop-octet : goal.invariant-loop-octet
invariant-loop-octet l = mixed l.mix (drop l.octet-index l.octets) ≡ mixed l.tag l.octets
