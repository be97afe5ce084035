-- The MSAP identifier that is told of a frame, and its places in the frame.
use Rattle.std.proofs.Common.{◌≡◌, ℕ, Bool, true, false, List, take, drop, Option, Some, None, refl, sym, ap, ◌∙◌, subst, arith}
use Rattle.std.specs.Prelude.{◌==◌, ◌&&◌, if◌then◌else◌, slice_get}
use Rattle.std.proofs.lemmas.List.{drop-drop}
use Rattle.std.proofs.lemmas.Option.{same_Some}
use Rattle.lldp_pdu.specs.declared.fault.PduFault.{PduFault}
use Rattle.lldp_pdu.specs.Frame.{lldpdu_of}
use Rattle.lldp_pdu.specs.Fault.{fault_of}
use Rattle.lldp_pdu.specs.Lldpdu.{extent, ttl_of, msap_of}
use Rattle.lldp_pdu.specs.Msap.{MsapId}
use Rattle.lldp_table.specs.declared.learned.Outcome.{Outcome}
use Rattle.lldp_table.specs.Contents.{Contents, holds_name}
use Rattle.lldp_table.specs.Outcomes.{store_outcome}
use Rattle.lldp_engine.specs.AgentState.{AgentState, PortState}
use Rattle.lldp_engine.specs.Event as event
use Rattle.lldp_engine.specs.Port.Event as port_event
use Rattle.lldp_engine.specs.Status.{receives}
use Rattle.lldp_engine.specs.Told.{deaf, left, stored}
use Rattle.lldp_engine.specs.Code.Telling.{agent_told, told_at, octets_tell, pdu_tells}
use Rattle.lldpa_c.specs.declared.place.LldpaPlace.{LldpaPlace}
use Rattle.lldpa_c.specs.declared.news.LldpaNews.{LldpaNews}
use Rattle.lldpa_c.specs.Place.{Holds}
use Rattle.lldpa_c.specs.Examined.{chassis_place, port_place}
use Rattle.lldpa_c.specs.News.{news_name, in_frame, PlacesName, HoldsName}
use Rattle.lldpa_c.proofs.Places.{header_off, chassis_lies, port_lies}

-- ---- the places of an identifier

placed : (frame pdu body : List ℕ) (place : LldpaPlace) → Some pdu ≡ lldpdu_of frame → Holds pdu place body
    → Holds frame (in_frame place) body
placed frame pdu body place h holds = record {
  within = omega (arith, holds.within, (header_off frame pdu h).1);
  held = ap (take place.length) (sym (drop-drop place.start 14 frame) ∙ ap (drop place.start) (sym (header_off frame pdu h).0)) ∙ holds.held;
}

named_in : (frame pdu : List ℕ) (news : LldpaNews) → Some pdu ≡ lldpdu_of frame → fault_of pdu ≡ None → PlacesName news (msap_of pdu) → HoldsName frame news (msap_of pdu)
named_in frame pdu news h sound places =
    let chassis = placed frame pdu (msap_of pdu).chassis (chassis_place (msap_of pdu)) h (chassis_lies pdu sound) in
    let port = placed frame pdu (msap_of pdu).port (port_place (msap_of pdu)) h (port_lies pdu sound) in
    record {
      chassis = subst (λ (p : LldpaPlace). Holds frame p (msap_of pdu).chassis) (sym places.chassis) chassis;
      port = subst (λ (p : LldpaPlace). Holds frame p (msap_of pdu).port) (sym places.port) port;
    }

-- ---- an identifier is told only of an LLDPDU without a fault

by_ttl : (leaves held : Bool) (msap name : MsapId) (outcome : Outcome) → news_name (if leaves then left msap held else stored msap outcome) ≡ Some name → name ≡ msap
by_ttl true held msap name outcome h = sym (same_Some msap name h)
by_ttl false held msap name outcome h = sym (same_Some msap name h)

by_fault : (table : Contents) (pdu : List ℕ) (fault : Option PduFault) (name : MsapId) → news_name (pdu_tells table pdu fault) ≡ Some name → (fault ≡ None) × (name ≡ msap_of pdu)
by_fault table pdu (Some fault) name h = absurd cc
by_fault table pdu None name h = (refl, by_ttl (ttl_of pdu == 0) (holds_name table (msap_of pdu)) (msap_of pdu) name (store_outcome table (msap_of pdu) (extent pdu)) h)

abbrev Named : Option (List ℕ) → MsapId → Type 0
Named found name = (pdu : List ℕ) × (found ≡ Some pdu) × (fault_of pdu ≡ None) × (name ≡ msap_of pdu)

by_pdu : (table : Contents) (found : Option (List ℕ)) (name : MsapId) → news_name (octets_tell table found) ≡ Some name → Named found name
by_pdu table None name h = absurd cc
by_pdu table (Some pdu) name h = let it = by_fault table pdu (fault_of pdu) name h in (pdu, refl, it.0, it.1)

by_hearing : (hears : Bool) (table : Contents) (found : Option (List ℕ)) (name : MsapId) → news_name (if hears then octets_tell table found else deaf) ≡ Some name → Named found name
by_hearing true table found name h = by_pdu table found name h
by_hearing false table found name h = absurd cc

by_port : (found : Option PortState) (octets : List ℕ) (name : MsapId) → news_name (told_at (port_event.frame octets) found) ≡ Some name → Named (lldpdu_of octets) name
by_port None octets name h = absurd cc
by_port (Some port) octets name h = by_hearing (receives port.status && port.machine.up) port.table (lldpdu_of octets) name h

pub holds_name_told : (agent : AgentState) (number : ℕ) (octets : List ℕ) (news : LldpaNews) (name : MsapId) → news_name (agent_told (event.frame number octets) agent) ≡ Some name
    → PlacesName news name → HoldsName octets news name
holds_name_told agent number octets news name h places =
    let it = by_port (slice_get agent.ports number) octets name h in
    subst (λ (msap : MsapId). HoldsName octets news msap) (sym it.3) (named_in octets it.0 news (sym it.1) it.2 (subst (PlacesName news) it.3 places))
