-- One flag for each type from Port Description to System Capabilities. A flag is set after the
-- first well-formed TLV of its type, and later TLVs of that type are not kept.
use Rattle.std.specs.Prelude.{◌≡◌, ℕ, ◌-◌, ◌≤◌, Bool, true, false, not, ◌&&◌, List, [], ◌∷◌, length, slice_index_or, slice_set, if◌then◌else◌}
use Rattle.lldp_pdu.specs.Tlv.{TlvUnit}
use Rattle.lldp_pdu.specs.TlvType.{port_description_type, system_capabilities_type}
use Rattle.lldp_pdu.specs.WellFormed.{is_well_formed}
use Rattle.lldp_pdu.specs.Kept.{is_single}

abbrev pub none_seen : List Bool
none_seen = false ∷ false ∷ false ∷ false ∷ []

-- there are four flags, and the flag of a type is set exactly if `is_met` is true for the type
pub record Flags (seen : List Bool) (is_met : ℕ → Bool) : Type 0 where
  pub four : length seen ≡ 4
  pub set : (kind : ℕ) → port_description_type ≤ kind → kind ≤ system_capabilities_type →
      slice_index_or seen (kind - port_description_type) false ≡ is_met kind

-- the type has a flag, and the flag is set
unfoldable pub has_flag : List Bool → ℕ → Bool
has_flag seen kind = is_single kind && slice_index_or seen (kind - port_description_type) false

-- the flags after setting the flag of this type, if the type has a flag
unfoldable pub with_flag : List Bool → ℕ → List Bool
with_flag seen kind = if is_single kind then slice_set seen (kind - port_description_type) true else seen

-- true if the next TLV, u, is kept
abbrev pub is_kept_seen : List Bool → TlvUnit → Bool
is_kept_seen seen u = is_well_formed u && not (has_flag seen u.kind)

-- the flags after the next TLV, u
abbrev pub seen_after : List Bool → TlvUnit → List Bool
seen_after seen u = if is_well_formed u then with_flag seen u.kind else seen

-- the TLVs of this list that are kept, starting with these flags
abbrev pub kept_seen : List Bool → List TlvUnit → List TlvUnit
kept_seen seen [] = []
kept_seen seen (u ∷ us) =
    if is_kept_seen seen u then u ∷ kept_seen (seen_after seen u) us else kept_seen (seen_after seen u) us
