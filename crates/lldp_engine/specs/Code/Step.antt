-- An event applied to the current data of an agent.
use Rattle.std.specs.Prelude.{ℕ, ◌+◌, List, [], ◌∷◌}
use Rattle.lldp_engine.specs.Event.{Event}
use Rattle.lldp_engine.specs.Configuration.{configured}
use Rattle.lldp_engine.specs.AgentState.{AgentState, PortState}
use Rattle.lldp_engine.specs.Past.{Sending, sending}
use Rattle.lldp_engine.specs.Code.PortStep.{port_mark, port_step}
use Rattle.lldp_engine.specs.Code.Whose.{Whose, whose, of_port}

-- Returns the ports after an event, numbered from i; n is the tx-interval in force after it.
abbrev pub ports_step : Whose → ℕ → ℕ → List PortState → List PortState
ports_step event n i [] = []
ports_step event n i (p ∷ ps) = port_step (of_port i event) n p ∷ ports_step event n (i + 1) ps

-- Returns the ports that send at an event, numbered from i, each with what it sends.
abbrev pub marks_step : Whose → ℕ → ℕ → List PortState → List Sending
marks_step event n i [] = []
marks_step event n i (p ∷ ps) = sending i (port_mark (of_port i event) n p) (marks_step event n (i + 1) ps)

-- The configuration changes first, then each port, with the new tx-interval.
abbrev pub agent_after : Event → AgentState → AgentState
agent_after event agent =
    let c = configured event agent.configuration in
    record { configuration = c; ports = ports_step (whose event) c.interval 0 agent.ports }

-- Returns the ports that send at the event, in ascending order, each with what it sends.
abbrev pub agent_marks : Event → AgentState → List Sending
agent_marks event agent = marks_step (whose event) (configured event agent.configuration).interval 0 agent.ports
