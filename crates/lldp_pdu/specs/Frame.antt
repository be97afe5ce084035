-- LLDP frames (IEEE 802.1AB-2009, 7.1 to 7.4).
use Rattle.std.specs.Prelude.{ℕ, ◌+◌, Bool, ◌&&◌, List, [], ◌∷◌, length, drop, Option, Some, None, nat_eq, if◌then◌else◌}
use Rattle.std.specs.List.{starts_with}
use Rattle.lldp_pdu.specs.Range.{is_between, most_octets}

-- the nearest bridge group address, 01-80-C2-00-00-0E
abbrev pub nearest_bridge : List ℕ
nearest_bridge = 0x01 ∷ 0x80 ∷ 0xc2 ∷ 0x00 ∷ 0x00 ∷ 0x0e ∷ []

-- LLDP's EtherType, 88-CC
abbrev pub lldp_ethertype : List ℕ
lldp_ethertype = 0x88 ∷ 0xcc ∷ []

-- The frame has 14 to 1,514 octets, the nearest bridge address as destination, and LLDP's
-- EtherType.
unfoldable pub is_lldp_frame : List ℕ → Bool
is_lldp_frame frame =
    is_between 14 (length frame) (14 + most_octets) && starts_with nat_eq frame nearest_bridge
    && starts_with nat_eq (drop 12 frame) lldp_ethertype

-- the LLDPDU of an LLDP frame: everything after the EtherType
abbrev pub lldpdu_of : List ℕ → Option (List ℕ)
lldpdu_of frame = if is_lldp_frame frame then Some (drop 14 frame) else None
