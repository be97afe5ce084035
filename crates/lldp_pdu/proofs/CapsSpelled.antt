-- A System Capabilities body is well formed exactly if it encodes capabilities.
use Rattle.std.proofs.Common.{◌≡◌, ℕ, zero, suc, Bool, ◌&&◌, ◌==◌, cond, eqb, List, length, Option, Some, None, refl, arith}
use Rattle.std.specs.Prelude.{bit_and}
use Rattle.std.specs.Int.{bit_at}
use Rattle.std.proofs.lemmas.Bool.{and_parts, eqb-true, eq-eqb}
use Rattle.std.proofs.lemmas.Option.{cond_some}
use Rattle.std.proofs.lemmas.Nat.Bits.{bit_at_and, bit_at-lt, same_from_bits}
use Rattle.lldp_pdu.specs.declared.fields.Caps.{Caps}
use Rattle.lldp_pdu.specs.Tlv.{AreOctets}
use Rattle.lldp_pdu.specs.Capabilities.{caps_fields, caps_of}
use Rattle.lldp_pdu.specs.Laws.CapsSpelling.{AreSpelled}
use Rattle.std.proofs.lemmas.Grind.{common_steps}

-- ---- if every enabled bit is available, a bitwise AND with the available bits changes nothing

and_from_among : (enabled available : ℕ) → ((bit : ℕ) → bit_at enabled bit ≡ 1 → bit_at available bit ≡ 1) → bit_and enabled available ≡ enabled
and_from_among enabled available among = same_from_bits (bit_and enabled available) enabled (λ bit. by bit (bit_at enabled bit) refl)
  where
    by : (bit n : ℕ) → bit_at enabled bit ≡ n → bit_at (bit_and enabled available) bit ≡ bit_at enabled bit
    by bit zero e = omega (arith, bit_at_and enabled available bit, e)
    by bit (suc n) e =
        let lt = bit_at-lt enabled bit in
        let one : bit_at enabled bit ≡ 1 = omega (arith, e, lt) in
        omega (arith, bit_at_and enabled available bit, one, among bit one)

-- ---- a well-formed body encodes capabilities, and an encoding is well formed

is_right : List ℕ → Bool
is_right body = (length body == 4) && (bit_and (caps_fields body).enabled (caps_fields body).available == (caps_fields body).enabled)

pub caps_are_spelled : (body : List ℕ) (caps : Caps) → AreOctets body → caps_of body ≡ Some caps → AreSpelled body caps
unfolding is_right
caps_are_spelled body caps octets h = grind (arith, common_steps, cond_some, and_parts, eqb-true, bit_at_and, bit_at-lt)

abbrev made : ℕ → ℕ → Option Caps
made available enabled = cond (eqb (bit_and enabled available) enabled) (Some (record { available = available; enabled = enabled })) None

pub spelled_are_caps : (body : List ℕ) (caps : Caps) → AreSpelled body caps → caps_of body ≡ Some caps
spelled_are_caps body caps h = grind (arith, common_steps, eq-eqb, and_from_among)
