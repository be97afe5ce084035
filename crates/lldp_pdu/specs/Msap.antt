-- The MSAP identifier, which identifies a neighbor (IEEE 802.1AB-2009, 8.5.2 and 8.5.3).
use Rattle.std.specs.Prelude.{ℕ, ◌≤◌, List, length}
use Rattle.lldp_pdu.specs.Range.{most_identifier}

-- the bodies of the Chassis ID and the Port ID, subtypes included
pub record MsapId : Type 0 where
  pub chassis : List ℕ
  pub port : List ℕ

-- an identifier has 2 to 256 octets, its subtype included
pub record IsIdentifier (body : List ℕ) : Type 0 where
  pub least : 2 ≤ length body
  pub greatest : length body ≤ most_identifier
