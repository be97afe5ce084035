-- No show command has more than 6,127,808 lines.
use Rattle.std.proofs.Common.{◌≡◌, ℕ, ◌+◌, ◌*◌, ◌<◌, ◌≤◌, List, [], ◌∷◌, length, map, Option, Some, None, IsSome, refl, ap, sym, arith}
use Rattle.std.specs.Prelude.{slice_get}
use Rattle.std.specs.Option.{option_map}
use Rattle.std.specs.List.{AllByRecursion}
use Rattle.std.proofs.lemmas.List.{length-append, length-map}
use Rattle.std.proofs.lemmas.Option.{slice_get_within}
use Rattle.arrayvec.specs.ArrayVec.{ArrayVec}
use Rattle.lldp_table.specs.Events.{Neighbor}
use Rattle.lldp_table.specs.Contents.{IsHeld, IsSound}
use Rattle.lldp_table.proofs.Extents.{kept_is_short}
use Rattle.lldp_engine.specs.Configuration.{Configuration}
use Rattle.lldp_engine.specs.AgentState.{PortState, AgentState}
use Rattle.lldp_engine.specs.Sound.{IsSoundPort, AreSound}
use Rattle.lldp_engine.specs.NeighborLines.{neighbor_lines, numbered_lines, port_lines, neighbors_lines}
use Rattle.lldp_engine.specs.StatisticsLines.{statistics_lines}
use Rattle.lldp_engine.specs.ChassisLines.{management_lines, chassis_lines}
use Rattle.lldp_engine.specs.ConfigurationLines.{status_line, configuration_lines}
use Rattle.lldp_engine.specs.Lines.{lines_of}
use Rattle.lldp_engine.specs.declared.command.Show.{Show}
use Rattle.lldp_engine.specs.declared.command.Show.TheVariants.{Neighbors, Statistics, Chassis, Configuration as Configured}
use Rattle.lldp_engine.specs.declared.show.lines.TheConstants.{MOST_LINES}
use Rattle.std.proofs.lemmas.Grind.{common_steps}

-- a neighbor: 4 lines, and one for each of at most (1500 - 12) / 2 kept TLVs
few_of_neighbor : (name : List ℕ) (number : ℕ) (neighbor : Neighbor) → IsHeld neighbor → length (neighbor_lines name number neighbor) ≤ 748
few_of_neighbor name number neighbor h = grind (arith, common_steps, kept_is_short, length-map)

few_of_neighbors : (name : List ℕ) (number : ℕ) (neighbors : List Neighbor) → AllByRecursion IsHeld neighbors → length (numbered_lines name number neighbors) ≤ 748 * length neighbors
few_of_neighbors name number [] h = omega arith
few_of_neighbors name number (neighbor ∷ others) h = grind (arith, common_steps, few_of_neighbor, length-append, few_of_neighbors name (number + 1) others h.1)

few_of_port : (port : PortState) → IsSound port.table → length (port_lines port) ≤ 3 + 128 * 748
few_of_port port h = grind (arith, common_steps, few_of_neighbors)

few_of_ports : (capacity : ℕ) (ports : List PortState) → AllByRecursion (IsSoundPort capacity) ports → length (neighbors_lines ports) ≤ (3 + 128 * 748) * length ports
few_of_ports capacity [] h = omega arith
few_of_ports capacity (port ∷ ports) h = grind (arith, common_steps, few_of_port, length-append, few_of_ports capacity ports h.1)

-- the counters: at most 99 lines for each port, a rough bound that is low enough
few_of_counters : (ports : List PortState) → length (statistics_lines ports) ≤ 99 * length ports
few_of_counters [] = omega arith
few_of_counters (port ∷ ports) = grind (arith, common_steps, length-append, few_of_counters ports)

few_of_chassis : (c : Configuration) (management : Option (List ℕ)) → management ≡ c.management → length (chassis_lines c) ≤ 5
few_of_chassis c None h = let e : length (management_lines c.management) ≡ 0 = ap (λ (m : Option (List ℕ)). length (management_lines m)) (sym h) in omega (arith, e)
few_of_chassis c (Some address) h = let e : length (management_lines c.management) ≡ 1 = ap (λ (m : Option (List ℕ)). length (management_lines m)) (sym h) in omega (arith, e)

-- the configuration: at most 99 lines for numbers, and one for each port
few_of_configuration : (agent : AgentState) → length (configuration_lines agent) ≤ 99 + length agent.ports
few_of_configuration agent = let count : length (map status_line agent.ports) ≡ length agent.ports = length-map agent.ports status_line in omega (arith, count)

pub few_lines : (show : Show) (agent : AgentState) → AreSound agent.configuration.capacity agent.ports → length (lines_of show agent) ≤ MOST_LINES
few_lines Neighbors agent h = let all = few_of_ports agent.configuration.capacity agent.ports h.sound in omega (arith, all, h.few)
few_lines Statistics agent h = let all = few_of_counters agent.ports in omega (arith, all, h.few)
few_lines Chassis agent h = let all = few_of_chassis agent.configuration agent.configuration.management refl in omega (arith, all)
few_lines Configured agent h = let all = few_of_configuration agent in omega (arith, all, h.few)

-- If line i exists, i is below every bound on the number of lines.
pub within : (given : Option (ArrayVec ℕ)) (lines : List (List ℕ)) (i most : ℕ) → option_map (λ (line : ArrayVec ℕ). line.items) given ≡ slice_get lines i → length lines ≤ most → IsSome given → i < most
within None lines i most e few some = cc
within (Some line) lines i most e few some = let lt : i < length lines = slice_get_within lines i line.items (sym e) in omega (arith, lt, few)
