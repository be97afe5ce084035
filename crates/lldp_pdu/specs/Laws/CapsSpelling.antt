-- The encoding of System Capabilities (IEEE 802.1AB-2009, 8.5.8).
use Rattle.std.specs.Prelude.{◌≡◌, ℕ, ◌<◌, ◌^◌, List, ◌++◌}
use Rattle.std.specs.Int.{w16, to_be_bytes, bit_at}
use Rattle.lldp_pdu.specs.declared.fields.Caps.{Caps}

-- Both fields fit in 16 bits, and every enabled bit is available.
pub record AreCaps (caps : Caps) : Type 0 where
  pub available : caps.available < 2 ^ 16
  pub enabled : caps.enabled < 2 ^ 16
  pub among : (bit : ℕ) → bit_at caps.enabled bit ≡ 1 → bit_at caps.available bit ≡ 1

-- The body is the available bits, then the enabled bits: two octets each, most significant first.
pub record AreSpelled (body : List ℕ) (caps : Caps) : Type 0 where
  pub capabilities : AreCaps caps
  pub octets : body ≡ to_be_bytes w16 caps.available ++ to_be_bytes w16 caps.enabled
