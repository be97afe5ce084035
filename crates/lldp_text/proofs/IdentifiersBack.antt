-- Identifiers can be read back from show lines: the kind from the key, then the octets.
use Rattle.std.proofs.Common.{◌≡◌, ℕ, ◌≤◌, ◌==◌, Bool, true, false, List, [], ◌∷◌, ◌++◌, length, drop, refl, sym, ap, ◌∙◌, arith}
use Rattle.std.specs.Prelude.{if◌then◌else◌, codes, slice_index}
use Rattle.std.specs.List.{list_any}
use Rattle.std.proofs.lemmas.Bool.{eqb-true, and_parts, cond_both}
use Rattle.hex.specs.Hex.{encode_lower}
use Rattle.lldp_pdu.specs.Tlv.{AreOctets}
use Rattle.lldp_pdu.specs.Msap.{IsIdentifier}
use Rattle.lldp_text.specs.Text.{escaped}
use Rattle.lldp_text.specs.Addresses.{mac_text, ipv4_text, ipv6_text, address_kind}
use Rattle.lldp_text.specs.Identifier.{chassis_kind, port_kind, identifier_text, chassis_text, port_text}
use Rattle.lldp_text.specs.declared.addresses.AddressKind.{AddressKind}
use Rattle.lldp_text.specs.declared.addresses.AddressKind.TheVariants.{Ipv4, Ipv6, Unknown}
use Rattle.lldp_text.specs.declared.identifier.IdentifierKind.{IdentifierKind}
use Rattle.lldp_text.specs.declared.identifier.IdentifierKind.TheVariants.{Component, InterfaceAlias, PortComponent, Mac, Network, InterfaceName, CircuitId, Local, Other}
use Rattle.lldp_text.proofs.ReadBack.{unescaped, plain, text_back, unhex, hex_back}
use Rattle.lldp_text.proofs.AddressesBack.{pairs_read, mac_back, fours_read, ipv6_back, numbers_read, ipv4_back, is_colon, ipv4_without, ipv6_with}
use Rattle.std.proofs.lemmas.Grind.{common_steps}

-- ## Forms of an identifier

-- the forms: a text after the key of its kind; a MAC, IPv4 or IPv6 address; the whole body in hex
data Shown : Type 0 where
  text : IdentifierKind → Shown
  mac : Shown
  ipv4 : Shown
  ipv6 : Shown
  whole : Shown

-- the form of an identifier, from its kind, whether its body has 7 octets, and its address kind
abbrev shown_as : IdentifierKind → Bool → AddressKind → Shown
shown_as Mac true address = mac
shown_as Mac false address = whole
shown_as Network seven Ipv4 = ipv4
shown_as Network seven Ipv6 = ipv6
shown_as Network seven Unknown = whole
shown_as Other seven address = whole
shown_as kind seven address = text kind

abbrev key_of : IdentifierKind → List ℕ
key_of Component = codes "component="
key_of InterfaceAlias = codes "ifalias="
key_of PortComponent = codes "portcomp="
key_of InterfaceName = codes "ifname="
key_of CircuitId = codes "circuit="
key_of Local = codes "local="
key_of kind = []

abbrev written : Shown → List ℕ → List ℕ
written (text kind) body = key_of kind ++ escaped (drop 1 body)
written mac body = codes "mac=" ++ mac_text (drop 1 body)
written ipv4 body = codes "ip=" ++ ipv4_text (drop 2 body)
written ipv6 body = codes "ip=" ++ ipv6_text (drop 2 body)
written whole body = codes "unhandled=" ++ encode_lower body

is_written : (kind : IdentifierKind) (body : List ℕ) (seven : Bool) (address : AddressKind) → (length body == 7) ≡ seven → address_kind (slice_index body 1) (length (drop 2 body)) ≡ address
    → identifier_text kind body ≡ written (shown_as kind seven address) body
is_written kind body seven address e f = grind (arith, common_steps)

-- ## The form of a line, found from its key

-- finds the form from two octets of the key and, for IP addresses, from whether there is a colon
shown_by : List ℕ → Shown
shown_by line =
    if slice_index line 2 == 109 then text Component
    else if slice_index line 2 == 97 then text InterfaceAlias
    else if slice_index line 2 == 110 then text InterfaceName
    else if slice_index line 2 == 114 then (if slice_index line 0 == 112 then text PortComponent else text CircuitId)
    else if slice_index line 2 == 99 then (if slice_index line 0 == 109 then mac else text Local)
    else if slice_index line 2 == 61 then (if list_any is_colon line then ipv6 else ipv4)
    else whole

-- ## The bodies that have each form

-- the subtype is the number of this kind; any subtype if the kind is Other
abbrev HasSubtype : (IdentifierKind → ℕ) → IdentifierKind → ℕ → Type 0
HasSubtype number Other subtype = Unit {0}
HasSubtype number kind subtype = subtype ≡ number kind

-- the body has the subtype of this form and, for IP addresses, the right family and length
abbrev IsShownAs : (IdentifierKind → ℕ) → Shown → List ℕ → Type 0
IsShownAs number (text Mac) body = ⊥
IsShownAs number (text Network) body = ⊥
IsShownAs number (text Other) body = ⊥
IsShownAs number (text kind) body = slice_index body 0 ≡ number kind
IsShownAs number mac body = slice_index body 0 ≡ number Mac
IsShownAs number ipv4 body = (slice_index body 0 ≡ number Network) × (slice_index body 1 ≡ 1) × (length (drop 2 body) ≡ 4)
IsShownAs number ipv6 body = (slice_index body 0 ≡ number Network) × (slice_index body 1 ≡ 2) × (length (drop 2 body) ≡ 16)
IsShownAs number whole body = Unit {0}

abbrev IsAddress : AddressKind → ℕ → ℕ → Type 0
IsAddress Ipv4 family len = (family ≡ 1) × (len ≡ 4)
IsAddress Ipv6 family len = (family ≡ 2) × (len ≡ 16)
IsAddress Unknown family len = Unit {0}

address_is : (family len : ℕ) → IsAddress (address_kind family len) family len
address_is family len = grind (arith, common_steps, cond_both, and_parts, eqb-true)

is_shown_as : (number : IdentifierKind → ℕ) (kind : IdentifierKind) (body : List ℕ) (seven : Bool) (address : AddressKind) → HasSubtype number kind (slice_index body 0)
    → IsAddress address (slice_index body 1) (length (drop 2 body)) → IsShownAs number (shown_as kind seven address) body
is_shown_as number kind body seven address s a = grind (arith, common_steps)

-- ## Reading the body back

by_key : (number : IdentifierKind → ℕ) (shown : Shown) (body : List ℕ) → IsShownAs number shown body → AreOctets (drop 2 body) → shown_by (written shown body) ≡ shown
unfolding shown_by
by_key number (text Mac) body s o = absurd s
by_key number (text Network) body s o = absurd s
by_key number (text Other) body s o = absurd s
by_key number ipv4 body s o = ap (λ (b : Bool). if b then ipv6 else ipv4) (ipv4_without (drop 2 body) o)
by_key number ipv6 body s o = ap (λ (b : Bool). if b then ipv6 else ipv4) (ipv6_with (drop 2 body) (let n = s.2 in omega arith))
by_key number shown body s o = refl

-- reads the body back from a line of this form
read_as : (IdentifierKind → ℕ) → Shown → List ℕ → List ℕ
read_as number (text kind) line = number kind ∷ unescaped plain (drop (length (key_of kind)) line)
read_as number mac line = number Mac ∷ pairs_read (drop 4 line)
read_as number ipv4 line = number Network ∷ 1 ∷ numbers_read [] (drop 3 line)
read_as number ipv6 line = number Network ∷ 2 ∷ fours_read (drop 3 line)
read_as number whole line = unhex (drop 10 line)

behind : (n t : ℕ) (rest back : List ℕ) → t ≡ n → back ≡ rest → n ∷ back ≡ t ∷ rest
behind n t rest back e f = cc

behind_two : (n t m u : ℕ) (rest back : List ℕ) → t ≡ n → u ≡ m → back ≡ rest → n ∷ m ∷ back ≡ t ∷ u ∷ rest
behind_two n t m u rest back e f g = cc

read_back : (number : IdentifierKind → ℕ) (shown : Shown) (t u : ℕ) (rest : List ℕ) → IsShownAs number shown (t ∷ u ∷ rest) → AreOctets (t ∷ u ∷ rest)
    → read_as number shown (written shown (t ∷ u ∷ rest)) ≡ t ∷ u ∷ rest
unfolding read_as
read_back number (text Mac) t u rest s o = absurd s
read_back number (text Network) t u rest s o = absurd s
read_back number (text Other) t u rest s o = absurd s
read_back number (text kind) t u rest s o = behind _ t (u ∷ rest) _ s (text_back (u ∷ rest) o.1)
read_back number mac t u rest s o = behind _ t (u ∷ rest) _ s (mac_back (u ∷ rest) o.1)
read_back number ipv4 t u rest s o = behind_two _ t _ u rest _ s.0 s.1 (ipv4_back rest (let n = s.2 in omega arith) o.1.1)
read_back number ipv6 t u rest s o = behind_two _ t _ u rest _ s.0 s.1 (ipv6_back 8 rest s.2 o.1.1)
read_back number whole t u rest s o = hex_back (t ∷ u ∷ rest) o

-- reads the body back from a line of any form
body_of : (IdentifierKind → ℕ) → List ℕ → List ℕ
body_of number line = read_as number (shown_by line) line

identifier_back : (number : IdentifierKind → ℕ) (kind : IdentifierKind) (body : List ℕ) → HasSubtype number kind (slice_index body 0) → 2 ≤ length body → AreOctets body → body_of number (identifier_text kind body) ≡ body
unfolding body_of
identifier_back number kind [] s long o = absurd (omega arith)
identifier_back number kind (t ∷ []) s long o = absurd (omega arith)
identifier_back number kind (t ∷ u ∷ rest) s long o =
    let body : List ℕ = t ∷ u ∷ rest in
    let seven : Bool = length body == 7 in
    let address : AddressKind = address_kind (slice_index body 1) (length (drop 2 body)) in
    let shown : Shown = shown_as kind seven address in
    let is : IsShownAs number shown body = is_shown_as number kind body seven address s (address_is (slice_index body 1) (length (drop 2 body))) in
    ap (λ line. read_as number (shown_by line) line) (is_written kind body seven address refl refl)
    ∙ ap (λ k. read_as number k (written shown body)) (by_key number shown body is o.1.1)
    ∙ read_back number shown t u rest is o

-- ## Chassis IDs and port IDs

-- the subtypes of table 8-2; 256, which is not a subtype, for kinds that chassis IDs cannot have
abbrev chassis_number : IdentifierKind → ℕ
chassis_number Component = 1
chassis_number InterfaceAlias = 2
chassis_number PortComponent = 3
chassis_number Mac = 4
chassis_number Network = 5
chassis_number InterfaceName = 6
chassis_number Local = 7
chassis_number CircuitId = 256
chassis_number Other = 256

-- the subtypes of table 8-3; 256, which is not a subtype, for kinds that port IDs cannot have
abbrev port_number : IdentifierKind → ℕ
port_number InterfaceAlias = 1
port_number Component = 2
port_number Mac = 3
port_number Network = 4
port_number InterfaceName = 5
port_number CircuitId = 6
port_number Local = 7
port_number PortComponent = 256
port_number Other = 256

chassis_has : (t : ℕ) → HasSubtype chassis_number (chassis_kind t) t
chassis_has t = grind (arith, common_steps, cond_both, eqb-true)

port_has : (t : ℕ) → HasSubtype port_number (port_kind t) t
port_has t = grind (arith, common_steps, cond_both, eqb-true)

chassis_back : (body : List ℕ) → IsIdentifier body → AreOctets body → body_of chassis_number (chassis_text body) ≡ body
chassis_back body is o = identifier_back chassis_number (chassis_kind (slice_index body 0)) body (chassis_has (slice_index body 0)) is.least o

port_back : (body : List ℕ) → IsIdentifier body → AreOctets body → body_of port_number (port_text body) ≡ body
port_back body is o = identifier_back port_number (port_kind (slice_index body 0)) body (port_has (slice_index body 0)) is.least o

pub chassis_apart : (one other : List ℕ) → AreOctets one → AreOctets other → IsIdentifier one → IsIdentifier other → chassis_text one ≡ chassis_text other → one ≡ other
chassis_apart one other o p i j e = sym (chassis_back one i o) ∙ ap (body_of chassis_number) e ∙ chassis_back other j p

pub ports_apart : (one other : List ℕ) → AreOctets one → AreOctets other → IsIdentifier one → IsIdentifier other → port_text one ≡ port_text other → one ≡ other
ports_apart one other o p i j e = sym (port_back one i o) ∙ ap (body_of port_number) e ∙ port_back other j p
