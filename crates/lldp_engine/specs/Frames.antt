-- The frames that an agent sends (IEEE 802.1AB-2009, 9.1.2).
use Rattle.std.specs.Prelude.{◌≡◌, ℕ, List, [], ◌∷◌, ◌++◌, Option, Some, None}
use Rattle.lldp_pdu.specs.Tlv.{TlvUnit}
use Rattle.lldp_pdu.specs.Msap.{MsapId}
use Rattle.lldp_pdu.specs.Frame.{nearest_bridge, lldp_ethertype, lldpdu_of}
use Rattle.lldp_pdu.specs.Fault.{fault_of}
use Rattle.lldp_pdu.specs.Lldpdu.{msap_of, ttl_of}
use Rattle.lldp_pdu.specs.Kept.{kept_of, discarded_of}
use Rattle.lldp_pdu.specs.Draft.{Draft, lldpdu_octets}
use Rattle.lldp_transmit.specs.declared.event.Mark.{Mark}
use Rattle.lldp_transmit.specs.declared.event.Mark.TheVariants.{Quiet, Ordinary, Shutdown}
use Rattle.lldp_engine.specs.declared.agent.options.Role.{Role}
use Rattle.lldp_engine.specs.declared.agent.options.Role.TheVariants.{Station, Bridge, Router}
use Rattle.lldp_engine.specs.Configuration.{Configuration, sent_ttl}

-- Returns a TLV of this type and body.
abbrev pub unit : ℕ → List ℕ → TlvUnit
unit kind body = record { kind = kind; body = body }

-- The chassis ID is the MAC address (subtype 4), and the port ID the port's name (subtype 5).
abbrev pub sent_msap : Configuration → List ℕ → MsapId
sent_msap c name = record { chassis = 4 ∷ c.mac; port = 5 ∷ name }

-- The body for an IPv4 address: interface numbering unknown (1), interface number 0, and no OID.
abbrev pub management_body : List ℕ → List ℕ
management_body address = (5 ∷ 1 ∷ address) ++ (1 ∷ 0 ∷ 0 ∷ 0 ∷ 0 ∷ 0 ∷ [])

-- Returns the Management Address TLV (8.5.9), if there is an address.
abbrev pub management_tlvs : Option (List ℕ) → List TlvUnit
management_tlvs None = []
management_tlvs (Some address) = unit 8 (management_body address) ∷ []

-- Each role has one capability, both available and enabled: station only, bridge, or router.
abbrev pub capabilities_of : Role → List ℕ
capabilities_of Station = 0x00 ∷ 0x80 ∷ 0x00 ∷ 0x80 ∷ []
capabilities_of Bridge = 0x00 ∷ 0x04 ∷ 0x00 ∷ 0x04 ∷ []
capabilities_of Router = 0x00 ∷ 0x10 ∷ 0x00 ∷ 0x10 ∷ []

-- The TLVs are Port Description, System Name, System Description, System Capabilities and, if there
-- is an address, Management Address.
abbrev pub sent_tlvs : Configuration → List ℕ → List TlvUnit
sent_tlvs c name =
    unit 4 name ∷ unit 5 c.hostname ∷ unit 6 c.description ∷ unit 7 (capabilities_of c.role)
    ∷ management_tlvs c.management

-- The content of a frame. An ordinary frame has the configuration's TTL and TLVs, a shutdown frame
-- a TTL of 0 and no optional TLVs. Quiet sends no frame; its value here is that of Shutdown.
abbrev pub draft_of : Configuration → List ℕ → Mark → Draft
draft_of c name Ordinary = record { msap = sent_msap c name; ttl = sent_ttl c; tlvs = sent_tlvs c name }
draft_of c name mark = record { msap = sent_msap c name; ttl = 0; tlvs = [] }

-- A frame is the nearest bridge address, the agent's MAC address, LLDP's EtherType and the LLDPDU.
unfoldable pub frame_of : Configuration → List ℕ → Mark → List ℕ
frame_of c name mark = nearest_bridge ++ c.mac ++ lldp_ethertype ++ lldpdu_octets (draft_of c name mark)

-- Holds if a frame is sent.
abbrev pub IsSent : Mark → Type 0
IsSent Quiet = ⊥
IsSent Ordinary = Unit {0}
IsSent Shutdown = Unit {0}

-- These octets are an LLDP frame, and examining its LLDPDU returns the content of the draft.
pub record SaysBack (draft : Draft) (octets : List ℕ) : Type 0 where
  pub lldpdu : List ℕ
  pub has : lldpdu_of octets ≡ Some lldpdu
  pub sound : fault_of lldpdu ≡ None
  pub msap : msap_of lldpdu ≡ draft.msap
  pub ttl : ttl_of lldpdu ≡ draft.ttl
  pub kept : kept_of lldpdu ≡ draft.tlvs
  pub none_discarded : discarded_of lldpdu ≡ 0
