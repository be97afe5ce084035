-- How a Management Address is written in show lines.
use Rattle.std.specs.Prelude.{ℕ, List, ◌++◌, length, codes, decimal}
use Rattle.hex.specs.Hex.{encode_lower}
use Rattle.lldp_pdu.specs.ManagementAddress.{Address}
use Rattle.lldp_text.specs.Addresses.{ipv4_text, ipv6_text, address_kind}
use Rattle.lldp_text.specs.declared.addresses.AddressKind.{AddressKind}
use Rattle.lldp_text.specs.declared.addresses.AddressKind.TheVariants.{Ipv4, Ipv6, Unknown}

-- an address of this kind; for Unknown: `af`, the family, a colon and the octets in hexadecimal
abbrev pub address_text : AddressKind → ℕ → List ℕ → List ℕ
address_text Ipv4 family octets = ipv4_text octets
address_text Ipv6 family octets = ipv6_text octets
address_text Unknown family octets = codes "af" ++ decimal family ++ codes ":" ++ encode_lower octets

-- An address, its numbering subtype, interface number and OID, joined by commas.
abbrev pub management_text : Address → List ℕ
management_text a =
    address_text (address_kind a.family (length a.address)) a.family a.address
    ++ codes "," ++ decimal a.numbering ++ codes "," ++ decimal a.interface ++ codes "," ++ encode_lower a.oid
