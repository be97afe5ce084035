-- Neighbors with different identifiers are shown differently.
use Rattle.std.specs.Prelude.{◌≡◌, ℕ, List}
use Rattle.lldp_pdu.specs.Tlv.{AreOctets}
use Rattle.lldp_pdu.specs.Msap.{IsIdentifier, MsapId}
use Rattle.lldp_text.specs.Identifier.{chassis_text, port_text}

-- Two different lists of octets that both have this property are written differently.
abbrev pub TellsApart : (List ℕ → Type 0) → (List ℕ → List ℕ) → Type 0
TellsApart Has text = (one other : List ℕ) → AreOctets one → AreOctets other → Has one → Has other → text one ≡ text other → one ≡ other

-- Both identifiers can occur in a frame: each consists of 2 to 256 octets.
pub record IsNameOfOctets (name : MsapId) : Type 0 where
  pub chassis_octets : AreOctets name.chassis
  pub port_octets : AreOctets name.port
  pub chassis : IsIdentifier name.chassis
  pub port : IsIdentifier name.port

-- The chassis IDs of the two neighbors are written alike, and so are their port IDs.
pub record AreShownAlike (one other : MsapId) : Type 0 where
  pub chassis : chassis_text one.chassis ≡ chassis_text other.chassis
  pub port : port_text one.port ≡ port_text other.port
