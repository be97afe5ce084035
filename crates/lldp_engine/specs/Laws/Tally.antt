-- How often a port sent a kind of frame, and what an event adds to the counters of the port.
use Rattle.std.specs.Prelude.{◌≡◌, ℕ, suc, ◌+◌, ◌-◌, ◌<◌, ◌≤◌, ◌%◌, ◌^◌, nat_le, false, List, [], ◌∷◌, length, filter, Some, None}
use Rattle.lldp_pdu.specs.Frame.{lldpdu_of}
use Rattle.lldp_pdu.specs.Fault.{fault_of}
use Rattle.lldp_pdu.specs.Lldpdu.{ttl_of, msap_of}
use Rattle.lldp_pdu.specs.Kept.{kept_of}
use Rattle.lldp_table.specs.Contents.{holds_name}
use Rattle.lldp_transmit.specs.declared.event.Mark.{Mark}
use Rattle.lldp_engine.specs.declared.port.counters.Counters.{Counters}
use Rattle.lldp_engine.specs.Event.{Event, frame}
use Rattle.lldp_engine.specs.AgentState.{PortState}
use Rattle.lldp_engine.specs.Past.{Past, with_event}
use Rattle.lldp_engine.specs.Laws.PortAt.{port_at, Sends}
use Rattle.lldp_engine.specs.Laws.Deaf.{Hears}

-- P holds at exactly this many of the events. P may depend on an event and all earlier ones.
pub data AreMany (P : List Event → Type 0) : List Event → ℕ → Type 0 where
  none : AreMany P [] 0
  one_more : {event : Event} {events : List Event} {n : ℕ} → P (event ∷ events) → AreMany P events n → AreMany P (event ∷ events) (suc n)
  no_more : {event : Event} {events : List Event} {n : ℕ} → ¬ (P (event ∷ events)) → AreMany P events n → AreMany P (event ∷ events) n

-- Port i sent `mark` at exactly n of the events so far.
abbrev pub HasSent : Past → ℕ → Mark → ℕ → Type 0
HasSent past i mark n = AreMany (λ events. Sends (record { options = past.options; events = events }) i mark) past.events n

-- `received` has risen by one and the other counters by these numbers, modulo 2^32.
pub record HaveRisen (before after : Counters) (faults faulty left_out unknown : ℕ) : Type 0 where
  pub received : after.received ≡ (before.received + 1) % 2 ^ 32
  pub discarded : after.discarded ≡ (before.discarded + faults) % 2 ^ 32
  pub errors : after.errors ≡ (before.errors + faulty) % 2 ^ 32
  pub tlvs_discarded : after.tlvs_discarded ≡ (before.tlvs_discarded + left_out) % 2 ^ 32
  pub unrecognized : after.unrecognized ≡ (before.unrecognized + unknown) % 2 ^ 32

-- If port i receives these octets, its counters rise by these numbers, as in `HaveRisen`.
abbrev pub Adds : Past → ℕ → List ℕ → ℕ → ℕ → ℕ → ℕ → Type 0
Adds past i octets faults errors discarded unrecognized =
    (before after : PortState) → port_at past i ≡ Some before → port_at (with_event past (frame i octets)) i ≡ Some after →
    HaveRisen before.counters after.counters faults errors discarded unrecognized

-- Counts the kept TLVs of types 9 to 127 in an LLDPDU.
abbrev pub unknown_tlvs : List ℕ → ℕ
unknown_tlvs pdu = length (filter (λ tlv. nat_le 9 tlv.kind) (kept_of pdu))

-- P relates port i before the event to port i after it.
abbrev pub Makes : Past → Event → ℕ → (PortState → PortState → Type 0) → Type 0
Makes past event i P =
    (before after : PortState) → port_at past i ≡ Some before → port_at (with_event past event) i ≡ Some after → P before after

-- `ageouts` has risen by the decrease in the number of neighbors, modulo 2^32.
abbrev pub CountsAgedOut : PortState → PortState → Type 0
CountsAgedOut before after =
    after.counters.ageouts
    ≡ (before.counters.ageouts + (length before.table.neighbors - length after.table.neighbors)) % 2 ^ 32

-- `ageouts` has not changed.
abbrev pub KeepsAgeouts : PortState → PortState → Type 0
KeepsAgeouts before after = after.counters.ageouts ≡ before.counters.ageouts

-- `drops` has risen by one, modulo 2^32.
abbrev pub CountsDrop : PortState → PortState → Type 0
CountsDrop before after = after.counters.drops ≡ (before.counters.drops + 1) % 2 ^ 32

-- `drops` has not changed.
abbrev pub KeepsDrops : PortState → PortState → Type 0
KeepsDrops before after = after.counters.drops ≡ before.counters.drops

-- The five counters of received frames and `drops` have not changed.
pub record KeepsReceived (before after : PortState) : Type 0 where
  pub received : after.counters.received ≡ before.counters.received
  pub discarded : after.counters.discarded ≡ before.counters.discarded
  pub errors : after.counters.errors ≡ before.counters.errors
  pub tlvs_discarded : after.counters.tlvs_discarded ≡ before.counters.tlvs_discarded
  pub unrecognized : after.counters.unrecognized ≡ before.counters.unrecognized
  pub drops : after.counters.drops ≡ before.counters.drops

-- Port i has no room for these octets: it hears them, their LLDPDU has no fault and a TTL above 0,
-- no neighbor has its MSAP identifier, and the table has reached its limit.
pub record HasNoRoom (past : Past) (i : ℕ) (octets : List ℕ) : Type 0 where
  pub hears : Hears past i
  pub lldpdu : List ℕ
  pub has : lldpdu_of octets ≡ Some lldpdu
  pub sound : fault_of lldpdu ≡ None
  pub lives : 0 < ttl_of lldpdu
  pub port : PortState
  pub is : port_at past i ≡ Some port
  pub other : holds_name port.table (msap_of lldpdu) ≡ false
  pub full : port.table.limit ≤ length port.table.neighbors
