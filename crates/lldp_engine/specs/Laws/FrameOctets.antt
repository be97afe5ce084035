-- The frames that are sent, octet by octet.
use Rattle.std.specs.Prelude.{◌≡◌, ℕ, ◌+◌, ◌*◌, ◌/◌, ◌%◌, ◌≤◌, min, List, [], ◌∷◌, ◌++◌, length, Option, Some, None, IfSome}
use Rattle.lldp_engine.specs.declared.agent.options.Role.{Role}
use Rattle.lldp_engine.specs.declared.agent.options.Role.TheVariants.{Station, Bridge, Router}
use Rattle.lldp_engine.specs.Configuration.{Configuration}
use Rattle.lldp_pdu.specs.Range.{most_text}
use Rattle.lldp_engine.specs.Ranges.{most_name, most_ttl}

-- As in every agent: a MAC address of 6 octets, a management address of 4, texts of at most 255
-- octets, and a port's name of at most 15.
pub record HasLengths (c : Configuration) (name : List ℕ) : Type 0 where
  pub mac : length c.mac ≡ 6
  pub management : IfSome c.management (λ address. length address ≡ 4)
  pub hostname : length c.hostname ≤ most_text
  pub description : length c.description ≤ most_text
  pub short : length name ≤ most_name

-- A TLV with a body of at most 255 octets: twice its type, the length of the body, the body.
abbrev pub tlv_octets : ℕ → List ℕ → List ℕ
tlv_octets twice body = twice ∷ length body ∷ body

-- The Ethernet header: to 01:80:c2:00:00:0e, from the MAC address, EtherType 88-cc; Chassis ID
-- (type 1), subtype 4, the MAC address; Port ID (type 2), subtype 5, the port's whole name.
abbrev pub front_octets : Configuration → List ℕ → List ℕ
front_octets c name =
    (0x01 ∷ 0x80 ∷ 0xc2 ∷ 0x00 ∷ 0x00 ∷ 0x0e ∷ []) ++ c.mac ++ (0x88 ∷ 0xcc ∷ [])
    ++ tlv_octets 0x02 (0x04 ∷ c.mac) ++ tlv_octets 0x04 (0x05 ∷ name)

-- Time To Live (type 3): tx-interval times tx-hold, plus 1, at most 65,535, high octet first.
abbrev pub ttl_octets : Configuration → List ℕ
ttl_octets c =
    let ttl = min most_ttl (c.interval * c.hold + 1) in
    tlv_octets 0x06 (ttl / 256 ∷ ttl % 256 ∷ [])

-- System Capabilities (type 7), both available and enabled: station only, bridge, or router.
abbrev pub capability_octets : Role → List ℕ
capability_octets Station = tlv_octets 0x0e (0x00 ∷ 0x80 ∷ 0x00 ∷ 0x80 ∷ [])
capability_octets Bridge = tlv_octets 0x0e (0x00 ∷ 0x04 ∷ 0x00 ∷ 0x04 ∷ [])
capability_octets Router = tlv_octets 0x0e (0x00 ∷ 0x10 ∷ 0x00 ∷ 0x10 ∷ [])

-- Management Address (type 8), if there is one: the length of subtype and address, IPv4 (1), the
-- address; interface numbering unknown (1), interface number 0; no OID.
abbrev pub management_octets : Option (List ℕ) → List ℕ
management_octets None = []
management_octets (Some address) =
    tlv_octets 0x10 ((0x05 ∷ 0x01 ∷ address) ++ (0x01 ∷ 0x00 ∷ 0x00 ∷ 0x00 ∷ 0x00 ∷ 0x00 ∷ []))

-- An ordinary frame: the front, the TTL, Port Description (type 4, the name), System Name (type 5),
-- System Description (type 6), the capabilities, any management address, End Of LLDPDU.
abbrev pub ordinary_octets : Configuration → List ℕ → List ℕ
ordinary_octets c name =
    front_octets c name ++ ttl_octets c ++ tlv_octets 0x08 name ++ tlv_octets 0x0a c.hostname
    ++ tlv_octets 0x0c c.description ++ capability_octets c.role ++ management_octets c.management
    ++ (0x00 ∷ 0x00 ∷ [])

-- A shutdown frame: the front, a TTL of 0, and End Of LLDPDU.
abbrev pub shutdown_octets : Configuration → List ℕ → List ℕ
shutdown_octets c name = front_octets c name ++ (0x06 ∷ 0x02 ∷ 0x00 ∷ 0x00 ∷ []) ++ (0x00 ∷ 0x00 ∷ [])
