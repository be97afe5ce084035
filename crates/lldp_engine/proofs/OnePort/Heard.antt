-- Events of a port make only calls that are possible on its table.
use Rattle.std.proofs.Common.{◌≡◌, ℕ, ◌<◌, ◌≤◌, Bool, true, false, List, length, take, drop, Option, Some, None, refl, sym, subst, arith}
use Rattle.std.proofs.lemmas.List.{take-append-drop, length-drop}
use Rattle.std.specs.Prelude.{◌==◌, ◌&&◌, not, if◌then◌else◌, is_some, option_and_then, IfSome}
use Rattle.std.specs.Option.{option_map}
use Rattle.std.proofs.lemmas.Bool.Decides.{nat_tests}
use Rattle.lldp_pdu.specs.Tlv.{AreOctets}
use Rattle.lldp_pdu.specs.Frame.{is_lldp_frame, lldpdu_of}
use Rattle.lldp_pdu.specs.Fault.{fault_of}
use Rattle.lldp_pdu.specs.Lldpdu.{ttl_of, msap_of}
use Rattle.lldp_pdu.specs.Msap.{MsapId}
use Rattle.lldp_pdu.specs.declared.fault.PduFault.{PduFault}
use Rattle.lldp_pdu.proofs.Cuts.{AreOctets-right}
use Rattle.lldp_table.specs.Contents.{Contents}
use Rattle.lldp_table.specs.Standing.{IsPossible}
use Rattle.lldp_table.proofs.Extents.{lldpdu_is_extent}
use Rattle.lldp_engine.specs.declared.port.status.Status.{Status}
use Rattle.lldp_engine.specs.Status.{receives}
use Rattle.lldp_engine.specs.Event as agent
use Rattle.lldp_engine.specs.Event.{Event}
use Rattle.lldp_engine.specs.Heard.{refused, leaves, tells, heard_of}
use Rattle.lldp_engine.specs.Port.Event.{PortEvent, frame, link, status, limit, for_port}
use Rattle.lldp_engine.specs.Port.Effects.{call_of, call_at}
use Rattle.lldp_engine.specs.Code.Taking.{FitsLimit}
use Rattle.lldp_table.specs.Events.{purge}
use Rattle.lldp_engine.proofs.AllPorts.EachPort.{own_or_nothing}
use Rattle.lldp_engine.specs.Code.Whose.{whose, of_port}

-- The LLDPDU of a frame has at most 1,500 octets.
short_lldpdu : (octets : List ℕ) → is_lldp_frame octets ≡ true → length (drop 14 octets) ≤ 1500
unfolding is_lldp_frame
short_lldpdu octets h = grind (arith, nat_tests, h, length-drop 14 octets)

pdu_told_as : (table : Contents) (pdu : List ℕ) (f : Option PduFault) (b : Bool) → AreOctets pdu → length pdu ≤ 1500 → fault_of pdu ≡ f → (ttl_of pdu == 0) ≡ b
    → IfSome (call_of (if is_some f then refused else (if b then leaves (msap_of pdu) else tells pdu))) (IsPossible table)
pdu_told_as table pdu (Some fault) b fits short e d = tt
pdu_told_as table pdu None true fits short e d = tt
pdu_told_as table pdu None false fits short e d = lldpdu_is_extent pdu fits e (grind (arith, nat_tests)) short

pdu_told : (table : Contents) (pdu : List ℕ) → AreOctets pdu → length pdu ≤ 1500 → IfSome (call_of (heard_of pdu)) (IsPossible table)
unfolding heard_of
pdu_told table pdu fits short = pdu_told_as table pdu (fault_of pdu) (ttl_of pdu == 0) fits short refl refl

lldpdu_told : (table : Contents) (octets : List ℕ) (b : Bool) → is_lldp_frame octets ≡ b → AreOctets octets
    → IfSome (option_and_then call_of (option_map heard_of (if b then Some (drop 14 octets) else None))) (IsPossible table)
lldpdu_told table octets true e fits = pdu_told table (drop 14 octets) (AreOctets-right (take 14 octets) (drop 14 octets) (subst AreOctets (sym (take-append-drop 14 octets)) fits)) (short_lldpdu octets e)
lldpdu_told table octets false e fits = tt

heard_told_as : (table : Contents) (octets : List ℕ) (b : Bool) → AreOctets octets
    → IfSome (option_and_then call_of (if b then option_map heard_of (lldpdu_of octets) else None)) (IsPossible table)
heard_told_as table octets true fits = lldpdu_told table octets (is_lldp_frame octets) refl fits
heard_told_as table octets false fits = tt

purge_told : (table : Contents) (b : Bool) → IfSome (if b then Some purge else None) (IsPossible table)
purge_told table true = tt
purge_told table false = tt

-- Each octet of a frame event is a number below 256.
abbrev pub HasOctets : PortEvent → Type 0
HasOctets (frame octets) = AreOctets octets
HasOctets event = Unit {0}

-- The call that an allowed event makes is possible on the table.
pub event_told : (table : Contents) (event : PortEvent) (given : Status) (up : Bool) → HasOctets event → FitsLimit event table → IfSome (call_at event given up) (IsPossible table)
event_told table (frame octets) given up h f = heard_told_as table octets (receives given && up) h
event_told table (limit neighbors) given up h f = f
event_told table (status next) given up h f = purge_told table (receives given && not (receives next))
event_told table event given up h f = tt

-- If the octets of an agent's event are below 256, so are those of the event for port i.
pub octets_for : (i : ℕ) (event : Event) → agent.HasOctets event → HasOctets (for_port i event)
octets_for i (agent.frame port octets) h = own_or_nothing HasOctets (port == i) (frame octets) h tt
octets_for i (agent.link port up) h = own_or_nothing HasOctets (port == i) (link up) tt tt
octets_for i (agent.set (agent.status port given)) h = own_or_nothing HasOctets (port == i) (status given) tt tt
octets_for i event h = tt

-- The code's way to tell which ports an event concerns gives port i the same event.
pub of_port_is : (i : ℕ) (event : Event) → of_port i (whose event) ≡ for_port i event
of_port_is i agent.tick = refl
of_port_is i (agent.frame port octets) = refl
of_port_is i (agent.link port up) = refl
of_port_is i (agent.set (agent.hostname text)) = refl
of_port_is i (agent.set (agent.description text)) = refl
of_port_is i (agent.set (agent.interval seconds)) = refl
of_port_is i (agent.set (agent.hold times)) = refl
of_port_is i (agent.set (agent.limit neighbors)) = refl
of_port_is i (agent.set (agent.status port given)) = refl
of_port_is i (agent.set agent.update) = refl

pub octets_of_port : (i : ℕ) (event : Event) → agent.HasOctets event → HasOctets (of_port i (whose event))
octets_of_port i event h = rw (of_port_is i event) (octets_for i event h)

-- ## The kind of a heard LLDPDU, by its fault and its TTL

pub heard_refused : (pdu : List ℕ) (fault : PduFault) → Some fault ≡ fault_of pdu → heard_of pdu ≡ refused
unfolding heard_of
heard_refused pdu fault h = rw (← h) refl

pub heard_leaves : (pdu : List ℕ) (msap : MsapId) → None ≡ fault_of pdu → ttl_of pdu ≡ 0 → msap ≡ msap_of pdu → heard_of pdu ≡ leaves msap
unfolding heard_of
heard_leaves pdu msap h t m = rw (← h, t, m) refl

pub heard_tells : (pdu : List ℕ) → None ≡ fault_of pdu → 0 < ttl_of pdu → heard_of pdu ≡ tells pdu
unfolding heard_of
heard_tells pdu h t = let some : (ttl_of pdu == 0) ≡ false = grind (arith, nat_tests) in rw (← h, some) refl
