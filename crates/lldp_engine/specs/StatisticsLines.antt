-- The lines of `show statistics`.
use Rattle.std.specs.Prelude.{ℕ, List, [], ◌∷◌, codes}
use Rattle.std.specs.List.{flat_map}
use Rattle.lldp_engine.specs.declared.port.counters.Counters.{Counters}
use Rattle.lldp_engine.specs.AgentState.{PortState}
use Rattle.lldp_engine.specs.Keys.{port_key, number_lines}

-- Returns the counters, each with its key.
abbrev pub counters_shown : Counters → List (List ℕ × ℕ)
counters_shown counters =
    (codes "sent=", counters.sent)
    ∷ (codes "shutdowns=", counters.shutdowns)
    ∷ (codes "received=", counters.received)
    ∷ (codes "discarded=", counters.discarded)
    ∷ (codes "errors=", counters.errors)
    ∷ (codes "tlvs-discarded=", counters.tlvs_discarded)
    ∷ (codes "unrecognized=", counters.unrecognized)
    ∷ (codes "ageouts=", counters.ageouts)
    ∷ (codes "drops=", counters.drops) ∷ []

-- Returns the lines of a port: one for each of its counters.
abbrev pub counter_lines : PortState → List (List ℕ)
counter_lines port = number_lines (port_key port.name) (counters_shown port.counters)

-- Returns the lines of each port, in the order of opening.
abbrev pub statistics_lines : List PortState → List (List ℕ)
statistics_lines ports = flat_map counter_lines ports
