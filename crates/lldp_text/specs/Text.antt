-- What texts are, and how they are written in show lines.
use Rattle.std.specs.Prelude.{ℕ, zero, suc, Bool, not, ◌&&◌, ◌==◌, nat_le, if◌then◌else◌, List, [], ◌∷◌, ◌++◌, length, codes}
use Rattle.std.specs.List.{flat_map, list_all}
use Rattle.hex.specs.Hex.{encode_lower}
use Rattle.lldp_pdu.specs.Range.{most_text}

-- true if the text has at most 255 octets, each from the space to the tilde
abbrev pub is_text : List ℕ → Bool
is_text text = nat_le (length text) most_text && list_all (λ c. nat_le 32 c && nat_le c 126) text

-- true if escaping leaves the octet unchanged: from the space to the tilde, except the backslash
abbrev pub is_plain : ℕ → Bool
is_plain octet = nat_le 32 octet && (nat_le octet 126 && not (octet == 92))

-- Escapes an octet: a backslash is doubled, any other octet from the space to the tilde is
-- unchanged, and every other octet becomes a backslash, `x` and two hexadecimal digits.
abbrev pub escape : ℕ → List ℕ
escape octet =
    if octet == 92 then codes "\\\\"
    else if nat_le 32 octet && nat_le octet 126 then octet ∷ []
    else codes "\\x" ++ encode_lower (octet ∷ [])

-- Escapes each octet separately.
abbrev pub escaped : List ℕ → List ℕ
escaped octets = flat_map escape octets

-- The separator before the next item of a list: nothing if there are no items before it.
abbrev pub separator : ℕ → ℕ → List ℕ
separator octet zero = []
separator octet (suc before) = octet ∷ []

-- a line followed by a line feed
abbrev pub ended : List ℕ → List ℕ
ended line = line ++ 10 ∷ []
