-- The lines of `show neighbors`.
use Rattle.std.specs.Prelude.{ℕ, ◌+◌, nat_lt, if◌then◌else◌, List, [], ◌∷◌, ◌++◌, length, map, codes, decimal, sum_by}
use Rattle.std.specs.List.{flat_map}
use Rattle.lldp_pdu.specs.Kept.{kept_of}
use Rattle.lldp_table.specs.Events.{Neighbor}
use Rattle.lldp_engine.specs.AgentState.{PortState}
use Rattle.lldp_engine.specs.Keys.{port_key, neighbor_key}
use Rattle.lldp_text.specs.Identifier.{chassis_text, port_text}
use Rattle.lldp_text.specs.KeptTlv.{tlv_text}

-- The lines of a neighbor: chassis ID, port ID, the TTL it sent, the ticks left, and each kept TLV.
abbrev pub neighbor_lines : List ℕ → ℕ → Neighbor → List (List ℕ)
neighbor_lines name number neighbor =
    let key = neighbor_key name number in
    (key ++ (codes "chassis." ++ chassis_text neighbor.msap.chassis))
    ∷ (key ++ (codes "port." ++ port_text neighbor.msap.port))
    ∷ (key ++ (codes "ttl=" ++ decimal neighbor.ttl))
    ∷ (key ++ (codes "expires=" ++ decimal neighbor.left))
    ∷ map (λ tlv. key ++ tlv_text tlv) (kept_of neighbor.octets)

-- Returns the lines of these neighbors, which are numbered from `number` on.
abbrev pub numbered_lines : List ℕ → ℕ → List Neighbor → List (List ℕ)
numbered_lines name number [] = []
numbered_lines name number (neighbor ∷ others) =
    neighbor_lines name number neighbor ++ numbered_lines name (number + 1) others

-- The first three lines of a port: how many neighbors it holds, the sum of their stored octets, and
-- whether there are too many neighbors (the timer of that condition is not 0).
abbrev pub count_lines : PortState → List (List ℕ)
count_lines port =
    (port_key port.name ++ (codes "neighbors=" ++ decimal (length port.table.neighbors)))
    ∷ (port_key port.name
    ++ (codes "octets=" ++ decimal (sum_by (λ neighbor. length neighbor.octets) port.table.neighbors)))
    ∷ (port_key port.name ++ (codes "too-many=" ++ (if nat_lt 0 port.table.too_many_left then codes "yes" else codes "no"))) ∷ []

-- The lines of a port: the first three, then those of each neighbor, numbered in table order.
abbrev pub port_lines : PortState → List (List ℕ)
port_lines port = count_lines port ++ numbered_lines port.name 1 port.table.neighbors

-- Returns the lines of each port, in the order of opening.
abbrev pub neighbors_lines : List PortState → List (List ℕ)
neighbors_lines ports = flat_map port_lines ports
