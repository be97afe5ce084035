-- How System Capabilities are written in show lines (the bits: IEEE 802.1AB-2009, table 8-4).
use Rattle.std.specs.Prelude.{ℕ, Bool, ◌==◌, if◌then◌else◌, List, [], ◌∷◌, ◌++◌, map, codes, slice_index_or}
use Rattle.std.specs.List.{join_with_byte, filter, range_with_len}
use Rattle.std.specs.Int.{bit_at}
use Rattle.lldp_pdu.specs.declared.fields.Caps.{Caps}

-- the names of the bits, from bit 0 on
abbrev pub capability_names : List (List ℕ)
capability_names =
    codes "Other" ∷ codes "Repeater" ∷ codes "Bridge" ∷ codes "Wlan"
    ∷ codes "Router" ∷ codes "Tel" ∷ codes "Docsis" ∷ codes "Station"
    ∷ codes "Cvlan" ∷ codes "Svlan" ∷ codes "Tpmr" ∷ codes "bit11"
    ∷ codes "bit12" ∷ codes "bit13" ∷ codes "bit14" ∷ codes "bit15" ∷ []

-- true if this bit of n is 1
abbrev pub is_set : ℕ → ℕ → Bool
is_set n bit = bit_at n bit == 1

-- `on` if true, else `off`
abbrev pub on_or_off : Bool → List ℕ
on_or_off on = if on then codes "on" else codes "off"

-- the name of a bit, a colon, and `on` or `off`
abbrev pub capability_text : Caps → ℕ → List ℕ
capability_text caps bit =
    slice_index_or capability_names bit [] ++ codes ":" ++ on_or_off (is_set caps.enabled bit)

-- The available capabilities in the order of their bits, 0 to 15, joined by commas.
abbrev pub capabilities_text : Caps → List ℕ
capabilities_text caps =
    join_with_byte 44 (map (capability_text caps) (filter (is_set caps.available) (range_with_len 0 16)))
