-- What a slot stores, and the tag that decides most comparisons of MSAP identifiers.
use Rattle.std.specs.Prelude.{ℕ, ◌≤◌, ◌+◌, ◌*◌, ◌^◌, ◌%◌, List, [], ◌∷◌}
use Rattle.lldp_pdu.specs.Msap.{MsapId}
use Rattle.lldp_pdu.specs.declared.limits.TheConstants.{MOST_OCTETS}

-- the octets of a frame's extent, and the frame's TTL
pub record Stored : Type 0 where
  pub octets : List ℕ
  pub ttl : ℕ

-- the tag after these octets were mixed into it, one after the other
abbrev pub mixed : ℕ → List ℕ → ℕ
mixed tag [] = tag
mixed tag (octet ∷ octets) = mixed ((tag * 31 % 2 ^ 8 + octet) % 2 ^ 8) octets

-- the tag of an MSAP identifier: all its octets mixed, those of the Chassis ID first
abbrev pub tag_of : MsapId → ℕ
tag_of name = mixed (mixed 0 name.chassis) name.port

-- the invariant of a slot's parts
pub record IsSlot (room : List ℕ) (size : ℕ) : Type 0 where
  pub within : size ≤ MOST_OCTETS
