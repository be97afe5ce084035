use Rattle.std.proofs.Common.{◌≡◌, length, take}
use Rattle.lldp_text.specs.Text.{escaped}
use Rattle.lldp_text.proofs.tail.escape_to.Given as goal

abbrev pub invariant-loop-octet : goal.invariant-loop-octet
invariant-loop-octet l =
    (take l.end l.room ≡ escaped (take l.octet-index l.octets)) × (l.end ≡ length (escaped (take l.octet-index l.octets)))
    × (length l.room ≡ length (escaped l.octets))
