use Rattle.std.proofs.Common.{◌≡◌, ℕ, ◌≤◌, true, List, length, ◌↔◌, Option, Some, None, is_some, refl, sym, true≢false, arith}
use Rattle.std.proofs.lemmas.Bool.{leb-true, le-leb}
use Rattle.std.proofs.lemmas.Option.{none-some}
use Rattle.std.proofs.lemmas.Bool.Decides.{nat_tests}
use Rattle.lldp_pdu.specs.declared.fields.Caps.{Caps}
use Rattle.lldp_pdu.specs.Tlv.{AreOctets}
use Rattle.lldp_pdu.specs.Msap.{IsIdentifier}
use Rattle.lldp_pdu.specs.Capabilities.{caps_of}
use Rattle.lldp_pdu.specs.ManagementAddress.{Address, address_of, IsSpelled}
use Rattle.lldp_pdu.specs.Laws.CapsSpelling.{AreSpelled}
use Rattle.lldp_pdu.proofs.Addresses.{address_is_spelled, spelled_is_address}
use Rattle.lldp_pdu.proofs.CapsSpelled.{caps_are_spelled, spelled_are_caps}
use Rattle.lldp_pdu.specs.WellFormed.{is_well_formed}
use Rattle.lldp_pdu.proofs.laws.types_decide_which_bodies_are_well_formed.Goals as goal

ending : (body : List ℕ) → is_well_formed (record { kind = 0; body = body }) ≡ true
unfolding is_well_formed
ending body = refl

identifiers : (kind : ℕ) (body : List ℕ) → 1 ≤ kind → kind ≤ 2 → (is_well_formed (record { kind = kind; body = body }) ≡ true) ↔ IsIdentifier body
unfolding is_well_formed
identifiers kind body least most = grind (arith, nat_tests, least, most)

texts : (kind : ℕ) (body : List ℕ) → 4 ≤ kind → kind ≤ 6 → (is_well_formed (record { kind = kind; body = body }) ≡ true) ↔ length body ≤ 255
unfolding is_well_formed
texts kind body least most = grind (arith, nat_tests, least, most)

reserved : (kind : ℕ) (body : List ℕ) → 9 ≤ kind → kind ≤ 126 → is_well_formed (record { kind = kind; body = body }) ≡ true
unfolding is_well_formed
reserved kind body least most = grind (arith, nat_tests, least, most)

ttl : (body : List ℕ) → (is_well_formed (record { kind = 3; body = body }) ≡ true) ↔ 2 ≤ length body
unfolding is_well_formed
ttl body = (leb-true 2 (length body), le-leb 2 (length body))

specific : (body : List ℕ) → (is_well_formed (record { kind = 127; body = body }) ≡ true) ↔ 4 ≤ length body
unfolding is_well_formed
specific body = (leb-true 4 (length body), le-leb 4 (length body))

-- if `o` is Some a exactly when P a holds, `o` is Some exactly when P holds for some value
by_option : {A : Type 0} {P : A → Type 0} (o : Option A) → ((a : A) → (o ≡ Some a) ↔ P a) → (is_some o ≡ true) ↔ ((a : A) × P a)
by_option None h = (λ e. absurd (true≢false (sym e)), λ p. absurd (none-some p.0 ((h p.0).1 p.1)))
by_option (Some a) h = (λ _. (a, (h a).0 refl), λ _. refl)

capabilities : (body : List ℕ) → AreOctets body → (is_well_formed (record { kind = 7; body = body }) ≡ true) ↔ ((caps : Caps) × AreSpelled body caps)
unfolding is_well_formed
capabilities body octets = by_option (caps_of body) (λ caps. (caps_are_spelled body caps octets, spelled_are_caps body caps))

addresses : (body : List ℕ) → AreOctets body → (is_well_formed (record { kind = 8; body = body }) ≡ true) ↔ ((address : Address) × IsSpelled body address)
unfolding is_well_formed
addresses body octets = by_option (address_of body) (λ a. (address_is_spelled body a octets, spelled_is_address body a))

pub returns-clause-end : goal.returns-clause-end
returns-clause-end c = ending

pub returns-clause-identifiers : goal.returns-clause-identifiers
returns-clause-identifiers c = identifiers

pub returns-clause-texts : goal.returns-clause-texts
returns-clause-texts c = texts

pub returns-clause-reserved : goal.returns-clause-reserved
returns-clause-reserved c = reserved

pub returns-clause-ttl : goal.returns-clause-ttl
returns-clause-ttl c = ttl

pub returns-clause-capabilities : goal.returns-clause-capabilities
returns-clause-capabilities c = capabilities

pub returns-clause-addresses : goal.returns-clause-addresses
returns-clause-addresses c = addresses

pub returns-clause-specific : goal.returns-clause-specific
returns-clause-specific c = specific
