-- The past of an agent, and what the definitions compute from it: the configuration, the past of
-- each port, the agent, and what is sent.
use Rattle.std.specs.Prelude.{ℕ, ◌+◌, List, [], ◌∷◌}
use Rattle.lldp_transmit.specs.declared.event.Mark.{Mark}
use Rattle.lldp_transmit.specs.declared.event.Mark.TheVariants.{Quiet, Ordinary, Shutdown}
use Rattle.lldp_engine.specs.Options.{Options}
use Rattle.lldp_engine.specs.Event.{Event, HasOctets, set, interval}
use Rattle.lldp_engine.specs.Ranges.{first_interval}
use Rattle.lldp_engine.specs.Configuration.{Configuration, configuration_at_opening, configured}
use Rattle.lldp_engine.specs.AgentState.{AgentState, PortState, Allows}
use Rattle.lldp_engine.specs.Port.Event.{for_port}
use Rattle.lldp_engine.specs.Port.Past.{Happened, mark_after, port_after}

-- The options at opening, and the events since, newest first.
pub record Past : Type 0 where
  pub options : Options
  pub events : List Event

-- Returns the past of an agent that was just opened.
abbrev pub opened : Options → Past
opened options = record { options = options; events = [] }

-- Returns the past with one more event.
abbrev pub with_event : Past → Event → Past
with_event past event = record { options = past.options; events = event ∷ past.events }

-- Each part of the configuration is as last set by a command, or else as at opening.
abbrev pub configuration_after : Options → List Event → Configuration
configuration_after o [] = configuration_at_opening o
configuration_after o (event ∷ events) = configured event (configuration_after o events)

-- The tx-interval is as last set by a command, or else as at opening.
abbrev pub interval_after : List Event → ℕ
interval_after [] = first_interval
interval_after (set (interval seconds) ∷ events) = seconds
interval_after (event ∷ events) = interval_after events

-- Returns what happens to port i at an event that follows these events.
abbrev pub happened : ℕ → Event → List Event → Happened
happened i event events = record { event = for_port i event; interval = interval_after (event ∷ events) }

-- Returns what has happened to port i, newest first.
abbrev pub port_past : ℕ → List Event → List Happened
port_past i [] = []
port_past i (event ∷ events) = happened i event events ∷ port_past i events

-- Returns what has happened to port i in the past of an agent.
abbrev pub past_of : Past → ℕ → List Happened
past_of past i = port_past i past.events

-- Returns the ports with these names after these events. The first is port i.
abbrev pub ports_after : Options → List Event → ℕ → List (List ℕ) → List PortState
ports_after o events i [] = []
ports_after o events i (name ∷ names) = port_after o (port_past i events) name ∷ ports_after o events (i + 1) names

-- Returns the agent with this past, by the definitions alone.
unfoldable pub agent_of : Past → AgentState
agent_of past =
    record {
      configuration = configuration_after past.options past.events;
      ports = ports_after past.options past.events 0 past.options.names;
    }

-- Each event was allowed by the agent before it, and received octets are below 256.
abbrev pub AreAllowed : Options → List Event → Type 0
AreAllowed o [] = Unit {0}
AreAllowed o (event ∷ events) =
    Allows (agent_of (record { options = o; events = events })) event × HasOctets event × AreAllowed o events

-- ## Frames that are sent

-- The number of a port that sends, and what it sends.
abbrev pub Sending : Type 0
Sending = ℕ × Mark

-- Puts a port and its mark before the others, unless the port sends nothing.
abbrev pub sending : ℕ → Mark → List Sending → List Sending
sending i Quiet others = others
sending i Ordinary others = (i, Ordinary) ∷ others
sending i Shutdown others = (i, Shutdown) ∷ others

-- Returns the ports that sent at the last event, with what they sent. The first name is port i.
abbrev pub sent_from : Options → List Event → ℕ → List (List ℕ) → List Sending
sent_from o events i [] = []
sent_from o events i (name ∷ names) = sending i (mark_after o (port_past i events)) (sent_from o events (i + 1) names)

-- Returns the ports that sent at the last event, in ascending order, each with what it sent.
abbrev pub marks_of : Past → List Sending
marks_of past = sent_from past.options past.events 0 past.options.names
