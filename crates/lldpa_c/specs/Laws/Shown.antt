-- Values in the structs for C, compared with the lines of shows and with the octets of bodies.
use Rattle.std.specs.Prelude.{◌≡◌, ℕ, ◌+◌, ◌*◌, ◌↔◌, false, List, [], ◌∷◌, ◌++◌, length, take, codes, decimal, replicate, Some, None, slice_get, slice_index, if◌then◌else◌, ◌==◌, ◌<◌, ◌≤◌}
use Rattle.std.specs.Option.{option_map}
use Rattle.lldp_pdu.specs.Tlv.{TlvUnit}
use Rattle.lldp_pdu.specs.Msap.{IsIdentifier}
use Rattle.lldp_pdu.specs.Kept.{IsKeptTlv}
use Rattle.lldp_pdu.specs.Capabilities.{caps_of}
use Rattle.lldp_pdu.specs.ManagementAddress.{address_of}
use Rattle.lldp_table.specs.Events.{Neighbor}
use Rattle.lldp_transmit.specs.declared.event.Mark.{Mark}
use Rattle.lldp_engine.specs.declared.port.counters.Counters.{Counters}
use Rattle.lldp_engine.specs.AgentState.{AgentState, PortState, IsPort, names_of}
use Rattle.lldp_engine.specs.Frames.{frame_of}
use Rattle.lldp_engine.specs.Keys.{port_key, neighbor_key, number_lines}
use Rattle.lldp_engine.specs.NeighborLines.{neighbor_lines, count_lines, numbered_lines, port_lines}
use Rattle.lldp_engine.specs.ConfigurationLines.{configuration_lines}
use Rattle.lldp_engine.specs.ChassisLines.{chassis_lines, management_lines}
use Rattle.lldp_engine.specs.StatisticsLines.{counter_lines}
use Rattle.lldp_engine.specs.Past.{Past}
use Rattle.lldp_engine.specs.Standing.{Stands}
use Rattle.lldp_text.specs.Text.{escaped}
use Rattle.lldp_text.specs.Addresses.{mac_text}
use Rattle.lldpa_c.specs.declared.bodies.LldpaCapabilities.{LldpaCapabilities}
use Rattle.lldpa_c.specs.declared.bodies.LldpaManagement.{LldpaManagement}
use Rattle.lldpa_c.specs.declared.held.LldpaHeld.{LldpaHeld}
use Rattle.lldpa_c.specs.declared.holder.LldpaAgent.{LldpaAgent}
use Rattle.lldpa_c.specs.declared.settings.LldpaConfiguration.{LldpaConfiguration}
use Rattle.lldpa_c.specs.declared.chassis.LldpaChassis.{LldpaChassis}
use Rattle.lldpa_c.specs.Bodies.{caps_told, address_told}
use Rattle.lldpa_c.specs.Frame.{has_no_port, Writes}
use Rattle.lldpa_c.specs.Held.{neighbors_at}
use Rattle.lldpa_c.specs.Reading.{ReadsNeighborCount, ReadsStatistics, ReadsConfiguration, ReadsChassis, ReadsNeighbor}
use Rattle.lldpa_c.specs.Values.{tlv_value}
use Rattle.lldp_engine.specs.Code.ShownValue.{kept_line}
use Rattle.lldp_engine.specs.Ranges.{most_ports}
use Rattle.lldp_pdu.specs.Range.{most_text}

-- the word of a status that C receives as a number
abbrev pub word_numbered : ℕ → List ℕ
word_numbered n =
    if n == 0 then codes "rx-and-tx"
    else if n == 1 then codes "rx-only"
    else if n == 2 then codes "tx-only"
    else codes "disabled"

-- the lines of these statuses, for ports with these names
abbrev pub statuses_told : List (List ℕ) → List ℕ → List (List ℕ)
statuses_told [] numbers = []
statuses_told (name ∷ names) [] = []
statuses_told (name ∷ names) (n ∷ numbers) =
    (codes "configuration." ++ (name ++ (codes ".status=" ++ word_numbered n))) ∷ statuses_told names numbers

abbrev pub settings_told : LldpaConfiguration → List (List ℕ × ℕ)
settings_told told =
    (codes "tx-interval=", told.interval)
    ∷ (codes "tx-hold=", told.hold)
    ∷ (codes "ttl=", told.ttl)
    ∷ (codes "reinit-delay=", told.reinit)
    ∷ (codes "tx-fast-init=", told.fast_init)
    ∷ (codes "tx-credit-max=", told.credit_max)
    ∷ (codes "max-neighbors=", told.max_neighbors)
    ∷ (codes "ports=", told.ports) ∷ []

-- the counters, with the words that `show statistics` has for them
abbrev pub counters_told : Counters → List (List ℕ × ℕ)
counters_told told =
    (codes "sent=", told.sent)
    ∷ (codes "shutdowns=", told.shutdowns)
    ∷ (codes "received=", told.received)
    ∷ (codes "discarded=", told.discarded)
    ∷ (codes "errors=", told.errors)
    ∷ (codes "tlvs-discarded=", told.tlvs_discarded)
    ∷ (codes "unrecognized=", told.unrecognized)
    ∷ (codes "ageouts=", told.ageouts)
    ∷ (codes "drops=", told.drops) ∷ []

-- the text of a role that C receives as a number
abbrev pub role_worded : ℕ → List ℕ
role_worded n = if n == 0 then codes "Station:on" else if n == 1 then codes "Bridge:on" else codes "Router:on"

-- the lines of `show chassis` for these values
abbrev pub chassis_told : LldpaChassis → List (List ℕ)
chassis_told told =
    (codes "local-chassis.mac=" ++ mac_text told.mac)
    ∷ (codes "local-chassis.name=" ++ escaped (take told.hostname_length told.hostname))
    ∷ (codes "local-chassis.descr=" ++ escaped (take told.description_length told.description))
    ∷ (codes "local-chassis.caps=" ++ role_worded told.role)
    ∷ management_lines (if told.managed then Some told.management else None)

-- the lines `ttl=` and `expires=` of a neighbor have the numbers of the struct
abbrev pub HasTimes : List ℕ → ℕ → Neighbor → LldpaHeld → Type 0
HasTimes name number neighbor told =
    (slice_get (neighbor_lines name number neighbor) 2 ≡ Some (neighbor_key name number ++ (codes "ttl=" ++ decimal told.pdu.ttl)))
    × (slice_get (neighbor_lines name number neighbor) 3 ≡ Some (neighbor_key name number ++ (codes "expires=" ++ decimal told.left)))

-- If a call that reads an agent answers 0, the numbers in its struct equal those in the lines of
-- `show configuration` and `show statistics`, and in the lines `neighbors=` of a port and `ttl=` and
-- `expires=` of a neighbor. What is told of the host is in the lines of `show chassis`; zeros follow its
-- texts, and stand for an address that it does not have.
pub record AreShown : Type 0 where
  pub settings : (before after : LldpaAgent) (told_before told : LldpaConfiguration) → ReadsConfiguration before told_before 0 after told →
      configuration_lines before.held.agent
      ≡ number_lines (codes "configuration.") (settings_told told) ++ statuses_told (names_of before.held.agent) (take told.ports told.status)
  pub others : (before after : LldpaAgent) (told_before told : LldpaConfiguration) (i : ℕ) → ReadsConfiguration before told_before 0 after told →
      length before.held.agent.ports ≤ i → i < most_ports → slice_get told.status i ≡ Some 0
  pub chassis : (before after : LldpaAgent) (told_before told : LldpaChassis) → ReadsChassis before told_before 0 after told →
      chassis_lines before.held.agent.configuration ≡ chassis_told told
  pub behind : (before after : LldpaAgent) (told_before told : LldpaChassis) (i : ℕ) → ReadsChassis before told_before 0 after told → i < most_text →
      (told.hostname_length ≤ i → slice_get told.hostname i ≡ Some 0) × (told.description_length ≤ i → slice_get told.description i ≡ Some 0)
  pub unmanaged : (before after : LldpaAgent) (told_before told : LldpaChassis) → ReadsChassis before told_before 0 after told →
      told.managed ≡ false → told.management ≡ replicate 4 0
  pub statistics : (before after : LldpaAgent) (i : ℕ) (port : PortState) (told_before told : Counters) → ReadsStatistics before i told_before 0 after told →
      slice_get before.held.agent.ports i ≡ Some port → counter_lines port ≡ number_lines (port_key port.name) (counters_told told)
  pub counted : (before after : LldpaAgent) (i count_before count : ℕ) (port : PortState) → ReadsNeighborCount before i count_before 0 after count →
      slice_get before.held.agent.ports i ≡ Some port → slice_get (port_lines port) 0 ≡ Some (port_key port.name ++ (codes "neighbors=" ++ decimal count))
  pub times : (before after : LldpaAgent) (i index number : ℕ) (name room_before room : List ℕ) (told_before told : LldpaHeld) (neighbor : Neighbor) (past : Past) →
      ReadsNeighbor before i index room_before told_before 0 after room told → slice_get (neighbors_at before.held.agent i) index ≡ Some neighbor →
      Stands past before.held.agent → HasTimes name number neighbor told

-- The neighbors with a port's number are those that `show neighbors` has for the port, in the same order,
-- and a frame has the port's name. A port number is refused exactly if no port has it.
pub record AreOfPorts : Type 0 where
  pub neighbors : (agent : AgentState) (i : ℕ) (port : PortState) → slice_get agent.ports i ≡ Some port →
      port_lines port ≡ count_lines port ++ numbered_lines port.name 1 (neighbors_at agent i)
  pub nowhere : (agent : AgentState) (port : ℕ) → length agent.ports ≤ port → neighbors_at agent port ≡ []
  pub frames : (agent : AgentState) (i : ℕ) (port : PortState) (mark : Mark) (octets : List ℕ) → slice_get agent.ports i ≡ Some port →
      Writes agent i mark octets → octets ≡ frame_of agent.configuration port.name mark
  pub ports : (agent : AgentState) (port : ℕ) → (has_no_port agent port ≡ false) ↔ IsPort agent port

-- The text of a TLV is a line of `show neighbors` without its prefix `lldp.PORT.N.`: the neighbor's
-- first line for the Chassis ID, the second line for the Port ID, and a line for each kept TLV.
pub record AreLines : Type 0 where
  pub chassis : (name : List ℕ) (number : ℕ) (neighbor : Neighbor) → IsIdentifier neighbor.msap.chassis →
      option_map (λ text. neighbor_key name number ++ text) (tlv_value 1 neighbor.msap.chassis) ≡ slice_get (neighbor_lines name number neighbor) 0
  pub port : (name : List ℕ) (number : ℕ) (neighbor : Neighbor) → IsIdentifier neighbor.msap.port →
      option_map (λ text. neighbor_key name number ++ text) (tlv_value 2 neighbor.msap.port) ≡ slice_get (neighbor_lines name number neighbor) 1
  pub kept : (key : List ℕ) (tlv : TlvUnit) → IsKeptTlv tlv → option_map (λ text. key ++ text) (tlv_value tlv.kind tlv.body) ≡ Some (kept_line key tlv)

-- The fields equal these octets of the two bodies: each set of capabilities is two octets, the
-- family is the second octet, and the numbering is the octet after the address.
pub record AreRead : Type 0 where
  pub capabilities : (body : List ℕ) (told : LldpaCapabilities) → caps_of body ≡ Some (caps_told told) →
      (told.available ≡ 256 * slice_index body 0 + slice_index body 1)
      × (told.enabled ≡ 256 * slice_index body 2 + slice_index body 3)
  pub management : (body : List ℕ) (told : LldpaManagement) → address_of body ≡ Some (address_told body told) →
      (told.family ≡ slice_index body 1) × (told.numbering ≡ slice_index body (slice_index body 0 + 1))
