-- All lines of each show command, in order.
use Rattle.std.specs.Prelude.{◌≡◌, ℕ, nat_lt, if◌then◌else◌, List, [], ◌∷◌, ◌++◌, Option, Some, None, codes, length, map, decimal, sum_by}
use Rattle.std.specs.List.{flat_map, enumerate_from}
use Rattle.lldp_pdu.specs.Kept.{kept_of}
use Rattle.lldp_table.specs.Events.{Neighbor}
use Rattle.lldp_text.specs.Text.{escaped}
use Rattle.lldp_text.specs.Addresses.{mac_text, ipv4_text}
use Rattle.lldp_text.specs.Identifier.{chassis_text, port_text}
use Rattle.lldp_text.specs.KeptTlv.{tlv_text}
use Rattle.lldp_engine.specs.declared.command.Show.{Show}
use Rattle.lldp_engine.specs.declared.command.Show.TheVariants.{Neighbors, Statistics, Chassis, Configuration}
use Rattle.lldp_engine.specs.Configuration.{Configuration as Configured, sent_ttl}
use Rattle.lldp_engine.specs.AgentState.{AgentState, PortState}
use Rattle.lldp_engine.specs.Laws.OnlyForms.{word_of}
use Rattle.lldp_engine.specs.declared.agent.options.Role.{Role}
use Rattle.lldp_engine.specs.declared.agent.options.Role.TheVariants.{Station, Bridge, Router}

-- Returns the text of a role's only capability, which is shown as enabled.
abbrev pub role_text : Role → List ℕ
role_text Station = codes "Station:on"
role_text Bridge = codes "Bridge:on"
role_text Router = codes "Router:on"

abbrev pub line_of : List ℕ → List ℕ → List ℕ
line_of name rest = codes "lldp." ++ (name ++ codes ".") ++ rest

-- Returns the lines of a port that come before those of its neighbors.
abbrev pub lines_of_counts : PortState → List (List ℕ)
lines_of_counts port =
    line_of port.name (codes "neighbors=" ++ decimal (length port.table.neighbors))
    ∷ line_of port.name (codes "octets=" ++ decimal (sum_by (λ neighbor. length neighbor.octets) port.table.neighbors))
    ∷ line_of port.name (codes "too-many=" ++ (if nat_lt 0 port.table.too_many_left then codes "yes" else codes "no")) ∷ []

-- Returns the first four lines of a neighbor with this number.
abbrev pub first_lines : List ℕ → ℕ → Neighbor → List (List ℕ)
first_lines name number neighbor =
    line_of name (decimal number ++ codes ".chassis." ++ chassis_text neighbor.msap.chassis)
    ∷ line_of name (decimal number ++ codes ".port." ++ port_text neighbor.msap.port)
    ∷ line_of name (decimal number ++ codes ".ttl=" ++ decimal neighbor.ttl)
    ∷ line_of name (decimal number ++ codes ".expires=" ++ decimal neighbor.left) ∷ []

-- Returns the lines of a neighbor's kept TLVs, in their order.
abbrev pub lines_of_kept : List ℕ → ℕ → Neighbor → List (List ℕ)
lines_of_kept name number neighbor = map (λ tlv. line_of name (decimal number ++ codes "." ++ tlv_text tlv)) (kept_of neighbor.octets)

abbrev pub lines_of_neighbor : List ℕ → ℕ × Neighbor → List (List ℕ)
lines_of_neighbor name numbered = first_lines name numbered.0 numbered.1 ++ lines_of_kept name numbered.0 numbered.1

-- Returns the lines of a port: its counts, then each neighbor, numbered from 1 in table order.
abbrev pub lines_of_port : PortState → List (List ℕ)
lines_of_port port = lines_of_counts port ++ flat_map (lines_of_neighbor port.name) (enumerate_from 1 port.table.neighbors)

abbrev pub lines_of_management : Option (List ℕ) → List (List ℕ)
lines_of_management None = []
lines_of_management (Some address) = (codes "local-chassis.mgmt=" ++ ipv4_text address ++ codes ",1,0,") ∷ []

abbrev pub lines_of_chassis : Configured → List (List ℕ)
lines_of_chassis c =
    (codes "local-chassis.mac=" ++ mac_text c.mac)
    ∷ (codes "local-chassis.name=" ++ escaped c.hostname)
    ∷ (codes "local-chassis.descr=" ++ escaped c.description)
    ∷ (codes "local-chassis.caps=" ++ role_text c.role)
    ∷ lines_of_management c.management

abbrev pub line_of_status : PortState → List ℕ
line_of_status port = codes "configuration." ++ port.name ++ codes "." ++ (codes "status=" ++ word_of port.status)

abbrev pub lines_of_configuration : AgentState → List (List ℕ)
lines_of_configuration agent =
    (codes "configuration.tx-interval=" ++ decimal agent.configuration.interval)
    ∷ (codes "configuration.tx-hold=" ++ decimal agent.configuration.hold)
    ∷ (codes "configuration.ttl=" ++ decimal (sent_ttl agent.configuration))
    ∷ (codes "configuration.reinit-delay=" ++ decimal agent.configuration.reinit)
    ∷ (codes "configuration.tx-fast-init=" ++ decimal agent.configuration.fast_init)
    ∷ (codes "configuration.tx-credit-max=" ++ decimal agent.configuration.credit_max)
    ∷ (codes "configuration.max-neighbors=" ++ decimal agent.configuration.limit)
    ∷ (codes "configuration.ports=" ++ decimal (length agent.ports))
    ∷ map line_of_status agent.ports

-- The lines of a port's counters.
abbrev pub lines_of_counters : PortState → List (List ℕ)
lines_of_counters port =
    let c = port.counters in
    line_of port.name (codes "sent=" ++ decimal c.sent) ∷ line_of port.name (codes "shutdowns=" ++ decimal c.shutdowns)
    ∷ line_of port.name (codes "received=" ++ decimal c.received) ∷ line_of port.name (codes "discarded=" ++ decimal c.discarded)
    ∷ line_of port.name (codes "errors=" ++ decimal c.errors) ∷ line_of port.name (codes "tlvs-discarded=" ++ decimal c.tlvs_discarded)
    ∷ line_of port.name (codes "unrecognized=" ++ decimal c.unrecognized) ∷ line_of port.name (codes "ageouts=" ++ decimal c.ageouts)
    ∷ line_of port.name (codes "drops=" ++ decimal c.drops) ∷ []

-- THE SHOWS: neighbors of each port, counters of each port, own identity, and configuration.
abbrev pub whole_of : Show → AgentState → List (List ℕ)
whole_of Neighbors agent = flat_map lines_of_port agent.ports
whole_of Statistics agent = flat_map lines_of_counters agent.ports
whole_of Chassis agent = lines_of_chassis agent.configuration
whole_of Configuration agent = lines_of_configuration agent

-- The sink adds the line to its list.
abbrev pub Adds : List (List ℕ) → List (List ℕ) → List ℕ → Type 0
Adds before after line = after ≡ before ++ line ∷ []
