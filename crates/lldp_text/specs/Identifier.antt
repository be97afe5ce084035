-- How identifiers are written in show lines (subtypes: IEEE 802.1AB-2009, tables 8-2 and 8-3).
use Rattle.std.specs.Prelude.{ℕ, ◌==◌, if◌then◌else◌, List, ◌++◌, length, drop, codes, slice_index}
use Rattle.hex.specs.Hex.{encode_lower}
use Rattle.lldp_text.specs.Text.{escaped}
use Rattle.lldp_text.specs.Addresses.{mac_text, ipv4_text, ipv6_text, address_kind}
use Rattle.lldp_text.specs.declared.addresses.AddressKind.{AddressKind}
use Rattle.lldp_text.specs.declared.addresses.AddressKind.TheVariants.{Ipv4, Ipv6, Unknown}
use Rattle.lldp_text.specs.declared.identifier.IdentifierKind.{IdentifierKind}
use Rattle.lldp_text.specs.declared.identifier.IdentifierKind.TheVariants.{Component, InterfaceAlias, PortComponent, Mac, Network, InterfaceName, CircuitId, Local, Other}

-- the kind of a chassis ID, by its subtype
abbrev pub chassis_kind : ℕ → IdentifierKind
chassis_kind subtype =
    if subtype == 1 then Component
    else if subtype == 2 then InterfaceAlias
    else if subtype == 3 then PortComponent
    else if subtype == 4 then Mac
    else if subtype == 5 then Network
    else if subtype == 6 then InterfaceName
    else if subtype == 7 then Local
    else Other

-- the kind of a port ID, by its subtype
abbrev pub port_kind : ℕ → IdentifierKind
port_kind subtype =
    if subtype == 1 then InterfaceAlias
    else if subtype == 2 then Component
    else if subtype == 3 then Mac
    else if subtype == 4 then Network
    else if subtype == 5 then InterfaceName
    else if subtype == 6 then CircuitId
    else if subtype == 7 then Local
    else Other

-- the whole body in hexadecimal, including its subtype
abbrev pub unhandled_text : List ℕ → List ℕ
unhandled_text body = codes "unhandled=" ++ encode_lower body

-- A network address as key and value. The body is a subtype, a family and the address.
abbrev pub network_text : AddressKind → List ℕ → List ℕ
network_text Ipv4 body = codes "ip=" ++ ipv4_text (drop 2 body)
network_text Ipv6 body = codes "ip=" ++ ipv6_text (drop 2 body)
network_text Unknown body = unhandled_text body

-- An identifier as key and value. The body is a subtype and the identifier.
abbrev pub identifier_text : IdentifierKind → List ℕ → List ℕ
identifier_text Component body = codes "component=" ++ escaped (drop 1 body)
identifier_text InterfaceAlias body = codes "ifalias=" ++ escaped (drop 1 body)
identifier_text PortComponent body = codes "portcomp=" ++ escaped (drop 1 body)
identifier_text Mac body = if length body == 7 then codes "mac=" ++ mac_text (drop 1 body) else unhandled_text body
identifier_text Network body = network_text (address_kind (slice_index body 1) (length (drop 2 body))) body
identifier_text InterfaceName body = codes "ifname=" ++ escaped (drop 1 body)
identifier_text CircuitId body = codes "circuit=" ++ escaped (drop 1 body)
identifier_text Local body = codes "local=" ++ escaped (drop 1 body)
identifier_text Other body = unhandled_text body

-- a chassis ID as key and value
abbrev pub chassis_text : List ℕ → List ℕ
chassis_text body = identifier_text (chassis_kind (slice_index body 0)) body

-- a port ID as key and value
abbrev pub port_text : List ℕ → List ℕ
port_text body = identifier_text (port_kind (slice_index body 0)) body
