-- The lines of `show chassis`.
use Rattle.std.specs.Prelude.{ℕ, List, [], ◌∷◌, ◌++◌, Option, Some, None, codes}
use Rattle.lldp_engine.specs.Configuration.{Configuration}
use Rattle.lldp_text.specs.Text.{escaped}
use Rattle.lldp_text.specs.Addresses.{mac_text, ipv4_text}
use Rattle.lldp_pdu.specs.Capabilities.{caps_fields}
use Rattle.lldp_text.specs.Capabilities.{capabilities_text}
use Rattle.lldp_engine.specs.Frames.{capabilities_of}

-- Returns the line of the management address, if there is one: the address, 1 (interface numbering unknown), interface
-- number 0, and no OID.
abbrev pub management_lines : Option (List ℕ) → List (List ℕ)
management_lines None = []
management_lines (Some address) = (codes "local-chassis.mgmt=" ++ ipv4_text address ++ codes ",1,0,") ∷ []

-- Returns the lines: MAC address, system name, description, capabilities, any management address.
abbrev pub chassis_lines : Configuration → List (List ℕ)
chassis_lines c =
    (codes "local-chassis.mac=" ++ mac_text c.mac)
    ∷ (codes "local-chassis.name=" ++ escaped c.hostname)
    ∷ (codes "local-chassis.descr=" ++ escaped c.description)
    ∷ (codes "local-chassis.caps=" ++ capabilities_text (caps_fields (capabilities_of c.role)))
    ∷ management_lines c.management
