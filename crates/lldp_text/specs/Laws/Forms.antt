-- How each value is written, whatever its octets.
use Rattle.std.specs.Prelude.{codes, ◌≡◌, ℕ, ◌+◌, ◌<◌, ◌≤◌, ◌==◌, ◌⊎◌, if◌then◌else◌, List, [], ◌∷◌, ◌++◌, length, map, decimal, Some}
use Rattle.std.specs.List.{AllByRecursion}
use Rattle.std.specs.Int.{bit_at}
use Rattle.hex.specs.Hex.{encode_lower}
use Rattle.lldp_pdu.specs.declared.fields.Caps.{Caps}
use Rattle.lldp_pdu.specs.Capabilities.{caps_of}
use Rattle.lldp_pdu.specs.ManagementAddress.{Address, address_of}
use Rattle.lldp_pdu.specs.Range.{most_text}
use Rattle.lldp_text.specs.Text.{escaped}
use Rattle.lldp_text.specs.Addresses.{mac_text, ipv4_text, ipv6_text}
use Rattle.lldp_text.specs.Identifier.{chassis_text, port_text}
use Rattle.lldp_text.specs.Capabilities.{capabilities_text}
use Rattle.lldp_text.specs.ManagementAddress.{management_text}
use Rattle.lldp_text.specs.KeptTlv.{tlv_text}

-- A text has at most 255 octets, each from the space to the tilde.
pub record IsText (text : List ℕ) : Type 0 where
  pub most : length text ≤ most_text
  pub printable : AllByRecursion (λ octet. (0x20 ≤ octet) × (octet ≤ 0x7e)) text

-- How a text is written, from its first octet: a backslash is doubled, other octets from the space
-- to the tilde are unchanged, and the rest become a backslash, `x` and two hexadecimal digits.
pub record IsEscaped (octet : ℕ) (text : List ℕ) : Type 0 where
  pub none : escaped [] ≡ []
  pub backslash : escaped (0x5c ∷ text) ≡ 0x5c ∷ 0x5c ∷ escaped text
  pub plain : 0x20 ≤ octet → octet ≤ 0x7e → ¬ (octet ≡ 0x5c) → escaped (octet ∷ text) ≡ octet ∷ escaped text
  pub other : (octet < 0x20) ⊎ (0x7e < octet) → escaped (octet ∷ text) ≡ 0x5c ∷ 0x78 ∷ encode_lower (octet ∷ []) ++ escaped text

-- How an address is written, from its first octet on. MAC: octets in hexadecimal, joined by colons.
-- IPv4: octets in decimal, joined by dots. IPv6: pairs of octets in hexadecimal, joined by colons.
pub record IsJoined (a b c d : ℕ) (octets : List ℕ) : Type 0 where
  pub mac_end : mac_text (a ∷ []) ≡ encode_lower (a ∷ [])
  pub mac : mac_text (a ∷ b ∷ octets) ≡ encode_lower (a ∷ []) ++ 0x3a ∷ mac_text (b ∷ octets)
  pub ipv4_end : ipv4_text (a ∷ []) ≡ decimal a
  pub ipv4 : ipv4_text (a ∷ b ∷ octets) ≡ decimal a ++ 0x2e ∷ ipv4_text (b ∷ octets)
  pub ipv6_end : ipv6_text (a ∷ b ∷ []) ≡ encode_lower (a ∷ b ∷ [])
  pub ipv6 : ipv6_text (a ∷ b ∷ c ∷ d ∷ octets) ≡ encode_lower (a ∷ b ∷ []) ++ 0x3a ∷ ipv6_text (c ∷ d ∷ octets)

-- An IPv4 address has family 1 and 4 octets; an IPv6 address has family 2 and 16 octets.
abbrev pub IsIpv4 : ℕ → List ℕ → Type 0
IsIpv4 family octets = (family ≡ 1) × (length octets ≡ 4)

abbrev pub IsIpv6 : ℕ → List ℕ → Type 0
IsIpv6 family octets = (family ≡ 2) × (length octets ≡ 16)

-- an address, the numbering subtype, the interface number and the OID, joined by commas
abbrev pub with_interface : List ℕ → Address → List ℕ
with_interface address a =
    address ++ (0x2c ∷ []) ++ decimal a.numbering ++ (0x2c ∷ []) ++ decimal a.interface ++ (0x2c ∷ []) ++ encode_lower a.oid

-- A management address begins with an IPv4 or IPv6 address, or else with `af` and the family.
pub record IsManaged (a : Address) : Type 0 where
  pub ipv4 : IsIpv4 a.family a.address → management_text a ≡ with_interface (ipv4_text a.address) a
  pub ipv6 : IsIpv6 a.family a.address → management_text a ≡ with_interface (ipv6_text a.address) a
  pub other : ¬ (IsIpv4 a.family a.address) → ¬ (IsIpv6 a.family a.address) →
      management_text a ≡ with_interface ((codes "af") ++ decimal a.family ++ (0x3a ∷ []) ++ encode_lower a.address) a

-- `unhandled=` and the whole body in hexadecimal
abbrev pub unhandled : List ℕ → List ℕ
unhandled body = 0x75 ∷ 0x6e ∷ 0x68 ∷ 0x61 ∷ 0x6e ∷ 0x64 ∷ 0x6c ∷ 0x65 ∷ 0x64 ∷ 0x3d ∷ encode_lower body

-- How identifiers that are not texts are written: `mac=` and six octets, `ip=` and an IPv4 or IPv6
-- address, or `unhandled=` and the whole body if the length, family or subtype fits neither.
pub record IsIdentified (mac network : ℕ) (text : List ℕ → List ℕ) (subtype family : ℕ) (octets : List ℕ) : Type 0 where
  pub mac_address : length octets ≡ 6 → text (mac ∷ octets) ≡ 0x6d ∷ 0x61 ∷ 0x63 ∷ 0x3d ∷ mac_text octets
  pub no_mac_address : ¬ (length octets ≡ 6) → text (mac ∷ octets) ≡ unhandled (mac ∷ octets)
  pub ipv4 : IsIpv4 family octets → text (network ∷ family ∷ octets) ≡ 0x69 ∷ 0x70 ∷ 0x3d ∷ ipv4_text octets
  pub ipv6 : IsIpv6 family octets → text (network ∷ family ∷ octets) ≡ 0x69 ∷ 0x70 ∷ 0x3d ∷ ipv6_text octets
  pub other_network : ¬ (IsIpv4 family octets) → ¬ (IsIpv6 family octets) → text (network ∷ family ∷ octets) ≡ unhandled (network ∷ family ∷ octets)
  pub other : (subtype ≡ 0) ⊎ (7 < subtype) → text (subtype ∷ octets) ≡ unhandled (subtype ∷ octets)

-- How the bits from `bit` on are shown, given their names. An available bit is shown as its name, a
-- colon, and `on` if it is enabled, else `off`. Other bits are not shown.
abbrev pub shown_from : Caps → ℕ → List (List ℕ) → List (List ℕ)
shown_from caps bit [] = []
shown_from caps bit (name ∷ names) =
    (if bit_at caps.available bit == 1
    then (name ++ 0x3a ∷ (if bit_at caps.enabled bit == 1 then codes "on" else codes "off")) ∷ []
    else [])
    ++ shown_from caps (bit + 1) names

-- How the kept TLVs of each type are written: a key, then a value.
pub record HasKeys (body : List ℕ) : Type 0 where
  pub port : tlv_text (record { kind = 4; body = body }) ≡ (codes "port.descr=") ++ escaped body
  pub name : tlv_text (record { kind = 5; body = body }) ≡ (codes "chassis.name=") ++ escaped body
  pub description : tlv_text (record { kind = 6; body = body }) ≡ (codes "chassis.descr=") ++ escaped body
  pub capabilities : (caps : Caps) → caps_of body ≡ Some caps →
      tlv_text (record { kind = 7; body = body }) ≡ (codes "chassis.caps=") ++ capabilities_text caps
  pub address : (address : Address) → address_of body ≡ Some address →
      tlv_text (record { kind = 8; body = body }) ≡ (codes "chassis.mgmt=") ++ management_text address
  -- `unknown.`, the type, `=` and the body in hexadecimal
  pub reserved : (kind : ℕ) → 9 ≤ kind → kind ≤ 126 →
      tlv_text (record { kind = kind; body = body }) ≡ (codes "unknown.") ++ decimal kind ++ (0x3d ∷ []) ++ encode_lower body
  -- `org.`, the OUI, a dot, the subtype, `=` and the rest of the body in hexadecimal
  pub specific : (a b c subtype : ℕ) →
      tlv_text (record { kind = 127; body = a ∷ b ∷ c ∷ subtype ∷ body }) ≡ (codes "org.") ++ encode_lower (a ∷ b ∷ c ∷ []) ++ (0x2e ∷ []) ++ decimal subtype ++ (0x3d ∷ []) ++ encode_lower body

-- Every text is written, escaped, after the key of its subtype.
pub record HasTextKeys (text : List ℕ) : Type 0 where
  pub chassis : map (λ subtype. chassis_text (subtype ∷ text)) (1 ∷ 2 ∷ 3 ∷ 6 ∷ 7 ∷ [])
      ≡ map (λ key. key ++ escaped text) (codes "component=" ∷ codes "ifalias=" ∷ codes "portcomp=" ∷ codes "ifname=" ∷ codes "local=" ∷ [])
  pub port : map (λ subtype. port_text (subtype ∷ text)) (1 ∷ 2 ∷ 5 ∷ 6 ∷ 7 ∷ [])
      ≡ map (λ key. key ++ escaped text) (codes "ifalias=" ∷ codes "component=" ∷ codes "ifname=" ∷ codes "circuit=" ∷ codes "local=" ∷ [])
