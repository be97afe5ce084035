-- The neighbors that aged out, compared with those held before and after.
use Rattle.std.specs.Prelude.{◌≡◌, ℕ, ◌<◌, Bool, not, List, length, map, sum_by}
use Rattle.std.specs.List.{filter, list_any}
use Rattle.lldp_pdu.specs.Msap.{MsapId}
use Rattle.lldp_table.specs.Contents.{is_named}
use Rattle.lldp_table.specs.Events.{Neighbor}
use Rattle.lldp_transmit.specs.declared.event.Mark.{Mark}
use Rattle.lldp_engine.specs.AgentState.{AgentState}
use Rattle.lldp_engine.specs.Event.{tick}
use Rattle.lldp_engine.specs.Past.{Past}
use Rattle.lldp_engine.specs.Standing.{Stands}
use Rattle.lldp_engine.specs.Code.Step.{agent_after}
use Rattle.lldpa_c.specs.Held.{neighbors_at, gone_at}
use Rattle.lldpa_c.specs.Ticks.{Takes}

-- the port holds no neighbor with this MSAP identifier
abbrev pub lacks : AgentState → ℕ → MsapId → Bool
lacks agent port name = not (list_any (is_named name) (neighbors_at agent port))

-- those of the neighbors of a port before that it does not hold after, in their order
abbrev pub lost_at : AgentState → AgentState → ℕ → List Neighbor
lost_at before after port = filter (λ (neighbor : Neighbor). lacks after port neighbor.msap) (neighbors_at before port)

abbrev pub octets_of : List Neighbor → List (List ℕ)
octets_of neighbors = map (λ (neighbor : Neighbor). neighbor.octets) neighbors

-- After a second each port tells exactly the neighbors that it held before and does not hold after,
-- as they were held, in their order. After several seconds they are those that it held before all of
-- these seconds, with the same octets. There are as many as `lldpa_ticks` told.
pub record AreGone : Type 0 where
  pub second : (past : Past) (agent : AgentState) (port : ℕ) → Stands past agent →
      gone_at (agent_after tick agent) port ≡ lost_at agent (agent_after tick agent) port
  pub seconds : (asked taken : ℕ) (before after : AgentState) (sent : List (ℕ × Mark)) (gone : ℕ) (past : Past) (port : ℕ) →
      Takes asked taken before after sent gone → 0 < taken → Stands past before →
      octets_of (gone_at after port) ≡ octets_of (lost_at before after port)
  pub number : (asked taken : ℕ) (before after : AgentState) (sent : List (ℕ × Mark)) (gone : ℕ) →
      Takes asked taken before after sent gone → 0 < taken →
      gone ≡ sum_by (λ port. length port.table.gone) after.ports
