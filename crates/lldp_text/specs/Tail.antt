-- The octets of a value after its head.
use Rattle.std.specs.Prelude.{ℕ, ◌*◌, List, length}
use Rattle.hex.specs.Hex.{encode_lower}
use Rattle.lldp_text.specs.Text.{escaped}
use Rattle.lldp_text.specs.declared.tail.Tail.{Tail}
use Rattle.lldp_text.specs.declared.tail.Tail.TheVariants as tail

-- the text of a tail
abbrev pub tail_text : Tail → List ℕ
tail_text (tail.Escaped octets) = escaped octets.now
tail_text (tail.Hex octets) = encode_lower octets.now

-- room that is always enough for it: four octets for each octet that is escaped, else two
abbrev pub tail_room : Tail → ℕ
tail_room (tail.Escaped octets) = 4 * length octets.now
tail_room (tail.Hex octets) = 2 * length octets.now
