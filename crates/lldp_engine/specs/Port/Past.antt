-- The past of a port, and what the definitions compute from it: its status, its link, what it
-- heard, the calls on its table, the causes for its transmit machine, and what it sent.
use Rattle.std.specs.Prelude.{ℕ, Bool, true, List, [], ◌∷◌}
use Rattle.std.specs.List.{cons_option}
use Rattle.lldp_table.specs.Events.{Call, TableEvent, events_of, answer}
use Rattle.lldp_table.specs.Standing.{table_of}
use Rattle.lldp_transmit.specs.declared.event.Mark.{Mark}
use Rattle.lldp_transmit.specs.History.{Settings, Event as Caused, event as caused, History}
use Rattle.lldp_transmit.specs.Moments.{mark_at}
use Rattle.lldp_transmit.specs.Standing.{machine_of}
use Rattle.lldp_engine.specs.declared.port.status.Status.{Status}
use Rattle.lldp_engine.specs.declared.port.counters.Counters.{Counters}
use Rattle.lldp_engine.specs.Options.{Options}
use Rattle.lldp_engine.specs.Status.{status_at_opening, transmits}
use Rattle.lldp_engine.specs.Heard.{Heard}
use Rattle.lldp_engine.specs.Counters.{counters_of}
use Rattle.lldp_engine.specs.AgentState.{PortState}
use Rattle.lldp_engine.specs.Port.Event.{PortEvent}
use Rattle.lldp_engine.specs.Port.Effects.{status_then, up_then, heard_at, call_at, cause_at}

-- An event of a port, with the tx-interval in force after it.
pub record Happened : Type 0 where
  pub event : PortEvent
  pub interval : ℕ

-- The status is as last set, or else as at opening.
abbrev pub status_after : Options → List Happened → Status
status_after o [] = status_at_opening o
status_after o (now ∷ past) = status_then now.event (status_after o past)

-- The link is as its last link event says, and up if there was none.
abbrev pub up_after : List Happened → Bool
up_after [] = true
up_after (now ∷ past) = up_then now.event (up_after past)

-- Returns the LLDPDUs that the port heard, newest first.
abbrev pub heard_after : Options → List Happened → List Heard
heard_after o [] = []
heard_after o (now ∷ past) = cons_option (heard_at now.event (status_after o past) (up_after past)) (heard_after o past)

-- Returns the calls on the table of the port, newest first.
abbrev pub calls_after : Options → List Happened → List Call
calls_after o [] = []
calls_after o (now ∷ past) = cons_option (call_at now.event (status_after o past) (up_after past)) (calls_after o past)

-- Returns the calls on the table of the port, each with its answer.
abbrev pub table_events_after : Options → List Happened → List TableEvent
table_events_after o past = events_of o.max_neighbors (calls_after o past)

-- Returns the settings with which the transmit machine of the port was opened.
abbrev pub settings_of : Options → Settings
settings_of o = record {
  credit_max = o.credit_max;
  fast_init = o.fast_init;
  reinit = o.reinit;
  allowed = transmits (status_at_opening o);
}

-- Returns what an event means to the transmit machine, with the tx-interval after the event.
abbrev pub caused_at : Options → Happened → List Happened → Caused
caused_at o now past =
    caused (cause_at now.event (status_after o past) (up_after past)
    (λ name. answer o.max_neighbors name (table_events_after o past))) now.interval

-- Returns what each event meant to the transmit machine of the port.
abbrev pub causes_after : Options → List Happened → History
causes_after o [] = []
causes_after o (now ∷ past) = caused_at o now past ∷ causes_after o past

-- Returns what the port sent at the last of these events.
abbrev pub mark_after : Options → List Happened → Mark
mark_after o past = mark_at (settings_of o) (causes_after o past)

-- Returns what the port sent at each event.
abbrev pub marks_after : Options → List Happened → List Mark
marks_after o [] = []
marks_after o (now ∷ past) = mark_after o (now ∷ past) ∷ marks_after o past

-- Returns the port's counters, from what it heard, its table events, and what it sent.
abbrev pub counters_after : Options → List Happened → Counters
counters_after o past = counters_of (heard_after o past) (table_events_after o past) (marks_after o past)

-- Returns the port with this past and this name, by the definitions alone.
unfoldable pub port_after : Options → List Happened → List ℕ → PortState
port_after o past name =
    record {
      name = name;
      status = status_after o past;
      table = table_of o.max_neighbors (calls_after o past);
      machine = machine_of (settings_of o) (causes_after o past);
      counters = counters_after o past;
    }
