-- The ports of the agent with a given past, and what an event leaves unchanged.
use Rattle.std.specs.Prelude.{◌≡◌, ℕ, List, Option, slice_get}
use Rattle.std.specs.List.{Contains}
use Rattle.std.specs.Option.{option_map}
use Rattle.lldp_table.specs.Events.{Neighbor}
use Rattle.lldp_table.specs.Contents.{Contents}
use Rattle.lldp_transmit.specs.declared.event.Mark.{Mark}
use Rattle.lldp_engine.specs.AgentState.{PortState}
use Rattle.lldp_engine.specs.Event.{Event}
use Rattle.lldp_engine.specs.Past.{Past, with_event, agent_of, marks_of}

-- Returns port i, if there is one.
abbrev pub port_at : Past → ℕ → Option PortState
port_at past i = slice_get (agent_of past).ports i

-- Returns the table of port i.
abbrev pub table_at : Past → ℕ → Option Contents
table_at past i = option_map (λ port. port.table) (port_at past i)

-- Returns the neighbors of port i.
abbrev pub neighbors_at : Past → ℕ → Option (List Neighbor)
neighbors_at past i = option_map (λ port. port.table.neighbors) (port_at past i)

-- Holds if port i sends `mark` at the last event.
abbrev pub Sends : Past → ℕ → Mark → Type 0
Sends past i mark = Contains (marks_of past) (i, mark)

-- Port i keeps its status, table, transmit machine and counters at the event, and sends nothing.
pub record LeavesPort (past : Past) (event : Event) (i : ℕ) : Type 0 where
  pub as_it_was : port_at (with_event past event) i ≡ port_at past i
  pub silent : (mark : Mark) → ¬ (Sends (with_event past event) i mark)

-- The event changes no port's table.
abbrev pub LeavesTables : Past → Event → Type 0
LeavesTables past event = (i : ℕ) → table_at (with_event past event) i ≡ table_at past i
