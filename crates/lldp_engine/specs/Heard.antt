-- What a port hears (IEEE 802.1AB-2009, 9.2.7.7).
use Rattle.std.specs.Prelude.{ℕ, ◌==◌, ◌&&◌, Bool, if◌then◌else◌, List, Option, None, is_some}
use Rattle.std.specs.Option.{option_map}
use Rattle.lldp_pdu.specs.Msap.{MsapId}
use Rattle.lldp_pdu.specs.Frame.{lldpdu_of}
use Rattle.lldp_pdu.specs.Fault.{fault_of}
use Rattle.lldp_pdu.specs.Lldpdu.{ttl_of, msap_of}
use Rattle.lldp_engine.specs.declared.port.status.Status.{Status}
use Rattle.lldp_engine.specs.Status.{receives}

-- An LLDPDU that was heard: refused because of a fault; or with a TTL of 0, so that the neighbor
-- leaves; or with a TTL above 0.
pub data Heard : Type 0 where
  refused : Heard
  leaves : (msap : MsapId) → Heard
  tells : (pdu : List ℕ) → Heard

-- An LLDPDU with a fault is refused; otherwise the neighbor leaves if the TTL is 0.
unfoldable pub heard_of : List ℕ → Heard
heard_of pdu =
    if is_some (fault_of pdu) then refused
    else (if ttl_of pdu == 0 then leaves (msap_of pdu) else tells pdu)

-- A port hears the LLDPDU of an LLDP frame if its status receives and its link is up.
abbrev pub heard_by : Status → Bool → List ℕ → Option Heard
heard_by status up octets = if receives status && up then option_map heard_of (lldpdu_of octets) else None
