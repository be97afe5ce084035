-- How addresses are written in show lines.
use Rattle.std.specs.Prelude.{ℕ, ◌&&◌, ◌==◌, if◌then◌else◌, List, [], ◌∷◌, map, decimal}
use Rattle.std.specs.List.{join_with_byte}
use Rattle.hex.specs.Hex.{encode_lower}
use Rattle.lldp_text.specs.declared.addresses.AddressKind.{AddressKind}
use Rattle.lldp_text.specs.declared.addresses.AddressKind.TheVariants.{Ipv4, Ipv6, Unknown}

-- A MAC address: pairs of hexadecimal digits joined by colons.
abbrev pub mac_text : List ℕ → List ℕ
mac_text octets = join_with_byte 58 (map (λ octet. encode_lower (octet ∷ [])) octets)

-- An IPv4 address: decimal numbers joined by dots.
abbrev pub ipv4_text : List ℕ → List ℕ
ipv4_text octets = join_with_byte 46 (map decimal octets)

-- the octets in pairs; an unpaired octet at the end is left out
abbrev pub pairs : List ℕ → List (List ℕ)
pairs [] = []
pairs (a ∷ []) = []
pairs (a ∷ b ∷ octets) = (a ∷ b ∷ []) ∷ pairs octets

-- An IPv6 address: groups of four hexadecimal digits joined by colons, never shortened.
abbrev pub ipv6_text : List ℕ → List ℕ
ipv6_text octets = join_with_byte 58 (map encode_lower (pairs octets))

-- Family 1 with 4 octets is IPv4, family 2 with 16 octets is IPv6, and all else is Unknown.
abbrev pub address_kind : ℕ → ℕ → AddressKind
address_kind family len =
    if (family == 1) && (len == 4) then Ipv4
    else if (family == 2) && (len == 16) then Ipv6
    else Unknown
