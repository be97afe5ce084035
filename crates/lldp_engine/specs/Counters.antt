-- The counters of a port (IEEE 802.1AB-2009, 9.2.6), each modulo 2^32.
use Rattle.std.specs.Prelude.{ℕ, ◌+◌, ◌%◌, ◌^◌, Bool, true, false, ◌||◌, nat_lt, if◌then◌else◌, List, [], ◌∷◌, length, filter}
use Rattle.std.specs.List.{sum_by}
use Rattle.lldp_pdu.specs.Kept.{kept_of, discarded_of, count_unrecognized}
use Rattle.lldp_table.specs.Events.{TableEvent, learned, is_tick, aged_out}
use Rattle.lldp_table.specs.declared.learned.Learned.TheVariants.{Dropped}
use Rattle.lldp_transmit.specs.declared.event.Mark.{Mark}
use Rattle.lldp_transmit.specs.declared.event.Mark.TheVariants.{Ordinary, Shutdown}
use Rattle.lldp_engine.specs.declared.port.counters.Counters.{Counters}
use Rattle.lldp_engine.specs.Heard.{Heard, refused, tells}

-- A counter shows a number modulo 2^32.
abbrev pub wrapped : ℕ → ℕ
wrapped n = n % 2 ^ 32

-- ## One LLDPDU

-- True if the LLDPDU was refused because it has a fault.
abbrev pub is_refused : Heard → Bool
is_refused refused = true
is_refused heard = false

-- Returns the number of discarded TLVs, or 0 if the LLDPDU has a fault or a TTL of 0.
abbrev pub discarded_tlvs : Heard → ℕ
discarded_tlvs (tells pdu) = discarded_of pdu
discarded_tlvs heard = 0

-- Returns the number of unrecognized kept TLVs, or 0 if the LLDPDU has a fault or a TTL of 0.
abbrev pub unrecognized_tlvs : Heard → ℕ
unrecognized_tlvs (tells pdu) = count_unrecognized (kept_of pdu)
unrecognized_tlvs heard = 0

-- True if the LLDPDU was refused or at least one of its TLVs was discarded.
abbrev pub is_error : Heard → Bool
is_error heard = is_refused heard || nat_lt 0 (discarded_tlvs heard)

-- ## One table event

-- True if a frame was dropped for lack of room.
abbrev pub is_dropped : TableEvent → Bool
is_dropped (learned msap ttl octets Dropped) = true
is_dropped event = false

-- Returns how many neighbors aged out in all: at each tick, those live before it but not after it.
abbrev pub all_aged_out : List TableEvent → ℕ
all_aged_out [] = 0
all_aged_out (event ∷ past) = (if is_tick event then aged_out past else 0) + all_aged_out past

-- ## What is sent at one event

-- True if an ordinary frame was sent.
abbrev pub is_ordinary : Mark → Bool
is_ordinary Ordinary = true
is_ordinary mark = false

-- True if a shutdown frame was sent.
abbrev pub is_shutdown : Mark → Bool
is_shutdown Shutdown = true
is_shutdown mark = false

-- ## One port

-- Returns the counters of a port from what it heard, its table events, and what it sent.
unfoldable pub counters_of : List Heard → List TableEvent → List Mark → Counters
counters_of heard events marks =
    record {
      sent = wrapped (length (filter is_ordinary marks));
      shutdowns = wrapped (length (filter is_shutdown marks));
      received = wrapped (length heard);
      discarded = wrapped (length (filter is_refused heard));
      errors = wrapped (length (filter is_error heard));
      tlvs_discarded = wrapped (sum_by discarded_tlvs heard);
      unrecognized = wrapped (sum_by unrecognized_tlvs heard);
      ageouts = wrapped (all_aged_out events);
      drops = wrapped (length (filter is_dropped events));
    }
