use Rattle.std.proofs.Common.{◌≡◌, drop}
use Rattle.std.specs.Prelude.{nat_le, ◌&&◌}
use Rattle.std.specs.List.{list_all}
use Rattle.lldp_text.proofs.printable.all_printable.Given as goal

abbrev pub invariant-loop-octet : goal.invariant-loop-octet
invariant-loop-octet l = list_all (λ c. nat_le 32 c && nat_le c 126) (drop l.octet-index l.text) ≡ list_all (λ c. nat_le 32 c && nat_le c 126) l.text
