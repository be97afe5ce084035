-- What the news say of a frame, in the words of the port that it comes to.
use Rattle.std.specs.Prelude.{◌≡◌, ℕ, ◌+◌, ◌<◌, ◌&&◌, ◌↔◌, nat_lt, true, false, if◌then◌else◌, List, length, Some, None, slice_get}
use Rattle.std.specs.Str.{bytes_eq}
use Rattle.lldp_pdu.specs.declared.fault.PduFault.{PduFault}
use Rattle.lldp_pdu.specs.FaultNumber.{pdu_fault_number}
use Rattle.lldp_pdu.specs.Frame.{lldpdu_of}
use Rattle.lldp_pdu.specs.Fault.{fault_of}
use Rattle.lldp_pdu.specs.Lldpdu.{extent, ttl_of, msap_of}
use Rattle.lldp_table.specs.Contents.{holds_name}
use Rattle.lldp_table.specs.Outcomes.{octets_held}
use Rattle.lldp_engine.specs.AgentState.{AgentState, PortState}
use Rattle.lldp_engine.specs.Event.{frame}
use Rattle.lldp_engine.specs.Status.{receives}
use Rattle.lldp_engine.specs.Told.{Told, Tells}
use Rattle.lldp_engine.specs.Code.Telling.{agent_told}
use Rattle.lldpa_c.specs.declared.news.LldpaNews.{LldpaNews}
use Rattle.lldpa_c.specs.News.{Reports}
use Rattle.lldpa_c.specs.Place.{octets_at}

-- the news have this number and this fault, and no identifiers
pub record IsUnnamed (news : LldpaNews) (what fault : ℕ) : Type 0 where
  pub what_is : news.what ≡ what
  pub fault_is : news.fault ≡ fault
  pub chassis : (news.chassis.start ≡ 0) × (news.chassis.length ≡ 0)
  pub port : (news.port.start ≡ 0) × (news.port.length ≡ 0)

-- The news of an LLDPDU without a fault: both identifiers, no fault, and what it does. A shutdown
-- removes the neighbor if it is held. Otherwise the neighbor sent the same octets or others; or it
-- is stored if there is room.
pub record IsNamed (port : PortState) (frame pdu : List ℕ) (news : LldpaNews) : Type 0 where
  pub fault : news.fault ≡ 0
  pub chassis : octets_at frame news.chassis ≡ (msap_of pdu).chassis
  pub port_id : octets_at frame news.port ≡ (msap_of pdu).port
  pub leaves : ttl_of pdu ≡ 0 → news.what ≡ (if holds_name port.table (msap_of pdu) then 8 else 9)
  pub held : (octets : List ℕ) → 0 < ttl_of pdu → octets_held port.table (msap_of pdu) ≡ Some octets →
      news.what ≡ (if bytes_eq octets (extent pdu) then 6 else 5)
  pub other : 0 < ttl_of pdu → octets_held port.table (msap_of pdu) ≡ None →
      news.what ≡ (if nat_lt (length port.table.neighbors) port.table.limit then 4 else 7)

-- The news of a frame that comes to this port.
pub record AreNews (port : PortState) (frame : List ℕ) (news : LldpaNews) : Type 0 where
  pub deaf : (receives port.status && port.machine.up) ≡ false → IsUnnamed news 2 0
  pub not_lldp : (receives port.status && port.machine.up) ≡ true → lldpdu_of frame ≡ None → IsUnnamed news 1 0
  pub refused : (pdu : List ℕ) (fault : PduFault) → (receives port.status && port.machine.up) ≡ true → lldpdu_of frame ≡ Some pdu →
      fault_of pdu ≡ Some fault → IsUnnamed news 3 (pdu_fault_number fault)
  pub named : (pdu : List ℕ) → (receives port.status && port.machine.up) ≡ true → lldpdu_of frame ≡ Some pdu → fault_of pdu ≡ None →
      IsNamed port frame pdu news

-- The news say what the frame did, judged by the port before it. They are 4 (8) exactly if the port
-- holds one neighbor more (fewer) after it.
pub record AreReported : Type 0 where
  pub frames : (agent : AgentState) (number : ℕ) (port : PortState) (octets : List ℕ) (news : LldpaNews) →
      slice_get agent.ports number ≡ Some port → Reports (agent_told (frame number octets) agent) octets news → AreNews port octets news
  pub steps : (before after : AgentState) (number : ℕ) (port next : PortState) (octets : List ℕ) (told : Told) (news : LldpaNews) →
      slice_get before.ports number ≡ Some port → slice_get after.ports number ≡ Some next → Tells (frame number octets) before after told →
      Reports told octets news →
      ((news.what ≡ 4) ↔ (length next.table.neighbors ≡ 1 + length port.table.neighbors))
      × ((news.what ≡ 8) ↔ (1 + length next.table.neighbors ≡ length port.table.neighbors))
