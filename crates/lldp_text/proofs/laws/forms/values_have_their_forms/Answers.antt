use Rattle.std.proofs.Common.{◌≡◌, ◌≢◌, ℕ, ◌≤◌, ◌<◌, ◌⊎◌, Bool, true, false, List, [], ◌∷◌, ◌++◌, get_or, map, Some, refl, ap, arith}
use Rattle.std.specs.Prelude.{if◌then◌else◌, decimal, codes}
use Rattle.std.specs.List.{flat_map, filter, join_with_byte}
use Rattle.std.proofs.lemmas.Bool.{eqb-true}
use Rattle.std.proofs.lemmas.Bool.Decides.{nat_tests}
use Rattle.std.proofs.lemmas.Option.{cond_some}
use Rattle.hex.specs.Hex.{encode_with, encode_lower}
use Rattle.lldp_pdu.specs.declared.fields.Caps.{Caps}
use Rattle.lldp_pdu.specs.Capabilities.{caps_fields, caps_of}
use Rattle.lldp_pdu.specs.ManagementAddress.{Address, address_fields, address_of}
use Rattle.lldp_text.specs.Text.{escaped}
use Rattle.lldp_text.specs.Capabilities.{is_set, capability_text, capabilities_text}
use Rattle.lldp_text.specs.ManagementAddress.{management_text}
use Rattle.lldp_text.specs.Identifier.{chassis_text, port_text}
use Rattle.lldp_text.specs.KeptTlv.{tlv_text}
use Rattle.lldp_text.specs.Laws.Forms.{IsJoined, IsManaged, IsIdentified, HasKeys}
use Rattle.lldp_text.proofs.laws.forms.values_have_their_forms.Goals as goal
use Rattle.std.proofs.lemmas.Grind.{common_steps}
use Rattle.lldp_text.proofs.CapabilitiesWritten.{capability_bits}

-- ---- texts and addresses

plain : (octet : ℕ) (text : List ℕ) → 0x20 ≤ octet → octet ≤ 0x7e → octet ≢ 0x5c → escaped (octet ∷ text) ≡ octet ∷ escaped text
plain octet text least most other = grind (arith, nat_tests, least, most, other)

other : (octet : ℕ) (text : List ℕ) → (octet < 0x20) ⊎ (0x7e < octet) → escaped (octet ∷ text) ≡ 0x5c ∷ 0x78 ∷ encode_lower (octet ∷ []) ++ escaped text
other octet text out = grind (arith, nat_tests, out)

pub returns-clause-texts : goal.returns-clause-texts
returns-clause-texts c = λ octet text. record { none = refl; backslash = refl; plain = plain octet text; other = other octet text }

joined : (a b c d : ℕ) (octets : List ℕ) → IsJoined a b c d octets
unfolding encode_with
joined a b c d octets = record { mac_end = refl; mac = refl; ipv4_end = refl; ipv4 = refl; ipv6_end = refl; ipv6 = refl }

pub returns-clause-addresses : goal.returns-clause-addresses
returns-clause-addresses c = joined

-- ---- capabilities

picked : {A : Type 0} (p : ℕ → Bool) (f : ℕ → A) (bits : List ℕ) → map f (filter p bits) ≡ flat_map (λ bit. if p bit then f bit ∷ [] else []) bits
picked p f [] = refl
picked {A} p f (bit ∷ bits) = by (p bit) (picked p f bits)
  where
    by : (b : Bool) → map f (filter p bits) ≡ flat_map (λ bit. if p bit then f bit ∷ [] else []) bits
        → map f (if b then bit ∷ filter p bits else filter p bits) ≡ (if b then f bit ∷ [] else []) ++ flat_map (λ bit. if p bit then f bit ∷ [] else []) bits
    by true e = ap (λ (xs : List A). f bit ∷ xs) e
    by false e = e

pub returns-clause-capabilities : goal.returns-clause-capabilities
returns-clause-capabilities c = λ caps. ap (join_with_byte 0x2c) (picked (is_set caps.available) (capability_text caps) capability_bits)

-- ---- management addresses

managed : (a : Address) → IsManaged a
managed a = grind (arith, common_steps, eqb-true)

pub returns-clause-management : goal.returns-clause-management
returns-clause-management c = managed

-- ---- identifiers

chassis : (subtype family : ℕ) (octets : List ℕ) → IsIdentified 4 5 chassis_text subtype family octets
chassis subtype family octets = grind (arith, common_steps, eqb-true, nat_tests)

pub returns-clause-chassis : goal.returns-clause-chassis
returns-clause-chassis c = chassis

port : (subtype family : ℕ) (octets : List ℕ) → IsIdentified 3 4 port_text subtype family octets
port subtype family octets = grind (arith, common_steps, eqb-true, nat_tests)

pub returns-clause-ports : goal.returns-clause-ports
returns-clause-ports c = port

-- ---- kept TLVs

reserved : (body : List ℕ) (kind : ℕ) → 9 ≤ kind → kind ≤ 126
    → tlv_text (record { kind = kind; body = body }) ≡ (0x75 ∷ 0x6e ∷ 0x6b ∷ 0x6e ∷ 0x6f ∷ 0x77 ∷ 0x6e ∷ 0x2e ∷ []) ++ decimal kind ++ (0x3d ∷ []) ++ encode_lower body
reserved body kind least most = grind (arith, common_steps, nat_tests)

fields_are : (body : List ℕ) (caps : Caps) → caps_of body ≡ Some caps → caps_fields body ≡ caps
fields_are body caps e = (cond_some _ (caps_fields body) caps e).1

address_is : (body : List ℕ) (address : Address) → address_of body ≡ Some address → address_fields body (get_or body 0 0) ≡ address
address_is body address e = (cond_some _ (address_fields body (get_or body 0 0)) address e).1

keys : (body : List ℕ) → HasKeys body
keys body =
    record {
      port = refl;
      name = refl;
      description = refl;
      capabilities = λ caps e. ap (λ x. codes "chassis.caps=" ++ capabilities_text x) (fields_are body caps e);
      address = λ address e. ap (λ x. codes "chassis.mgmt=" ++ management_text x) (address_is body address e);
      reserved = reserved body;
      specific = λ a b c subtype. refl;
    }

pub returns-clause-kept : goal.returns-clause-kept
returns-clause-kept c = keys

pub returns-clause-identified : goal.returns-clause-identified
returns-clause-identified c = λ text. record { chassis = refl; port = refl }
