-- An event applied to the current data of a port.
use Rattle.std.specs.Prelude.{ℕ, List, Option, Some, None, option_and_then}
use Rattle.lldp_table.specs.Events.{Call}
use Rattle.lldp_table.specs.Contents.{Contents}
use Rattle.lldp_table.specs.Code.Steps.{learn_answer, table_after, newly_opened}
use Rattle.lldp_transmit.specs.declared.event.Cause.{Cause}
use Rattle.lldp_transmit.specs.declared.event.Mark.{Mark}
use Rattle.lldp_transmit.specs.Code.Machine.{stepped, opened as opened_machine}
use Rattle.lldp_engine.specs.Options.{Options}
use Rattle.lldp_engine.specs.Status.{status_at_opening}
use Rattle.lldp_engine.specs.Heard.{Heard}
use Rattle.lldp_engine.specs.AgentState.{PortState}
use Rattle.lldp_engine.specs.Port.Event.{PortEvent}
use Rattle.lldp_engine.specs.Port.Effects.{status_then, call_of, call_at, cause_at}
use Rattle.lldp_engine.specs.Port.Past.{settings_of}
use Rattle.lldp_engine.specs.Code.Counting.{none_counted, with_heard, with_event_counted, with_mark}

-- Returns a port just after opening.
abbrev pub opened_port : Options → List ℕ → PortState
opened_port o name =
    record {
      name = name;
      status = status_at_opening o;
      table = newly_opened o.max_neighbors;
      machine = opened_machine (settings_of o);
      counters = none_counted;
    }

-- Returns the table after this call, if there is a call.
abbrev pub with_call : Contents → Option Call → Contents
with_call table None = table
with_call table (Some call) = table_after table call

-- Returns the port after it heard this LLDPDU, if any.
abbrev pub hears_if : PortState → Option Heard → PortState
hears_if p heard =
    record p {
      table = with_call p.table (option_and_then call_of heard);
      counters = with_heard (learn_answer p.table) p.counters heard;
    }

-- Returns what an event means to the port's transmit machine.
abbrev pub port_cause : PortEvent → PortState → Cause
port_cause event p = cause_at event p.status p.machine.up (learn_answer p.table)

-- Returns the port after an event, before its transmit machine handles the event.
abbrev pub port_after_event : PortEvent → PortState → PortState
port_after_event event p =
    record p {
      status = status_then event p.status;
      table = with_call p.table (call_at event p.status p.machine.up);
      counters = with_event_counted event p.status p.machine.up p.table p.counters;
    }

-- The port's transmit machine handles a cause; n is the tx-interval in force after the event.
abbrev pub transmitted : Cause → ℕ → PortState → PortState
transmitted cause n p =
    record p {
      machine = (stepped p.machine cause n).0;
      counters = with_mark p.counters (stepped p.machine cause n).1;
    }

-- Returns what the port sends at an event.
abbrev pub port_mark : PortEvent → ℕ → PortState → Mark
port_mark event n p = (stepped p.machine (port_cause event p) n).1

-- Returns the port after an event.
abbrev pub port_step : PortEvent → ℕ → PortState → PortState
port_step event n p = transmitted (port_cause event p) n (port_after_event event p)
