use Rattle.std.proofs.Common.{◌≡◌, map, take}
use Rattle.std.specs.List.{All}
use Rattle.std.specs.Str.{IsUtf8}
use Rattle.lldpa_c.proofs.open.names_of.Given as goal

-- the names are the texts that were read so far, and each of these texts is UTF-8
abbrev pub invariant-loop-text : goal.invariant-loop-text
invariant-loop-text l =
    (map (λ name. name.now) l.names.items ≡ map (λ text. text.octets.now) (take l.text-index l.first))
    × All (λ text. IsUtf8 text.octets.now) (take l.text-index l.first)
