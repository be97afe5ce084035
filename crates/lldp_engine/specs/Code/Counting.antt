-- How the counters of a port change.
use Rattle.std.specs.Prelude.{ℕ, ◌+◌, ◌-◌, Bool, nat_lt, length, Option, Some, None}
use Rattle.std.specs.Int.{from_bool}
use Rattle.lldp_pdu.specs.Msap.{MsapId}
use Rattle.lldp_pdu.specs.Lldpdu.{msap_of}
use Rattle.lldp_pdu.specs.Kept.{kept_of, discarded_of, count_unrecognized}
use Rattle.lldp_table.specs.declared.learned.Learned.{Learned}
use Rattle.lldp_table.specs.declared.learned.Learned.TheVariants.{Dropped}
use Rattle.lldp_table.specs.Contents.{Contents}
use Rattle.lldp_table.specs.Code.Steps.{learn_answer, after_tick}
use Rattle.lldp_transmit.specs.declared.event.Mark.{Mark}
use Rattle.lldp_transmit.specs.declared.event.Mark.TheVariants.{Quiet, Ordinary, Shutdown}
use Rattle.lldp_engine.specs.declared.port.status.Status.{Status}
use Rattle.lldp_engine.specs.declared.port.counters.Counters.{Counters}
use Rattle.lldp_engine.specs.Heard.{Heard, refused, leaves, tells}
use Rattle.lldp_engine.specs.Counters.{wrapped}
use Rattle.lldp_engine.specs.Port.Event.{PortEvent, tick}
use Rattle.lldp_engine.specs.Port.Effects.{heard_at}

-- All counters are 0.
abbrev pub none_counted : Counters
none_counted = record {
  sent = 0;
  shutdowns = 0;
  received = 0;
  discarded = 0;
  errors = 0;
  tlvs_discarded = 0;
  unrecognized = 0;
  ageouts = 0;
  drops = 0;
}

-- Counts a received LLDP frame.
abbrev pub with_received : Counters → Counters
with_received c = record c { received = wrapped (c.received + 1) }

-- Counts a refused LLDPDU, which is also an error.
abbrev pub with_refused : Counters → Counters
with_refused c = record c { discarded = wrapped (c.discarded + 1); errors = wrapped (c.errors + 1) }

-- Counts discarded and unrecognized TLVs of an LLDPDU, and an error if any was discarded.
abbrev pub with_tlvs : Counters → ℕ → ℕ → Counters
with_tlvs c discarded unrecognized =
    record c {
      errors = wrapped (c.errors + from_bool (nat_lt 0 discarded));
      tlvs_discarded = wrapped (c.tlvs_discarded + discarded);
      unrecognized = wrapped (c.unrecognized + unrecognized);
    }

-- Counts an LLDPDU that the table dropped.
abbrev pub with_answer : Counters → Learned → Counters
with_answer c Dropped = record c { drops = wrapped (c.drops + 1) }
with_answer c answer = c

-- Counts n neighbors that aged out.
abbrev pub with_aged_out : Counters → ℕ → Counters
with_aged_out c n = record c { ageouts = wrapped (c.ageouts + n) }

-- Counts a frame that was sent, if any.
abbrev pub with_mark : Counters → Mark → Counters
with_mark c Quiet = c
with_mark c Ordinary = record c { sent = wrapped (c.sent + 1) }
with_mark c Shutdown = record c { shutdowns = wrapped (c.shutdowns + 1) }

-- Counts a heard LLDPDU, if any; `answer` is the table's answer to an MSAP identifier.
abbrev pub with_heard : (MsapId → Learned) → Counters → Option Heard → Counters
with_heard answer c None = c
with_heard answer c (Some refused) = with_refused (with_received c)
with_heard answer c (Some (leaves msap)) = with_received c
with_heard answer c (Some (tells pdu)) =
    with_answer (with_tlvs (with_received c) (discarded_of pdu) (count_unrecognized (kept_of pdu))) (answer (msap_of pdu))

-- Counts the neighbors that age out at a tick, or the LLDPDU heard at any other event.
abbrev pub with_event_counted : PortEvent → Status → Bool → Contents → Counters → Counters
with_event_counted tick status up table c =
    with_aged_out c (length table.neighbors - length (after_tick table).neighbors)
with_event_counted event status up table c = with_heard (learn_answer table) c (heard_at event status up)
