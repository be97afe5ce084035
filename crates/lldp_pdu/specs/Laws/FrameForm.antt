-- The form of an LLDP frame, octet by octet (IEEE 802.1AB-2009, 7.1 to 7.4).
use Rattle.std.specs.Prelude.{◌≡◌, ℕ, ◌≤◌, List, ◌∷◌, ◌++◌, length}
use Rattle.lldp_pdu.specs.Range.{most_octets}

-- The frame is the destination 01-80-C2-00-00-0E, a source of six octets, the EtherType 88-CC, and
-- an LLDPDU of at most 1,500 octets.
pub record HasForm (frame lldpdu : List ℕ) : Type 0 where
  pub source : List ℕ
  pub six : length source ≡ 6
  pub most : length lldpdu ≤ most_octets
  pub octets : frame ≡ 0x01 ∷ 0x80 ∷ 0xc2 ∷ 0x00 ∷ 0x00 ∷ 0x0e ∷ source ++ 0x88 ∷ 0xcc ∷ lldpdu
