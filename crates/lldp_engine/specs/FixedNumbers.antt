-- Fixed numbers: the ends of ranges, the sizes of lines and writers, the numbers of faults.
use Rattle.std.specs.Prelude.{◌≡◌, ℕ, ◌+◌, ◌<◌, ◌↔◌, [], ◌∷◌, map}
use Rattle.lldp_transmit.specs.declared.limits.TheConstants.{MOST_CREDIT, MOST_FAST, MOST_REINIT}
use Rattle.lldp_engine.specs.declared.agent.options.TheConstants.{MOST_NEIGHBORS, MOST_PORTS}
use Rattle.lldp_engine.specs.declared.agent.configuration.TheConstants.{MOST_TTL}
use Rattle.lldp_engine.specs.declared.agent.event.TheConstants.{MOST_INTERVAL, MOST_HOLD}
use Rattle.lldp_engine.specs.declared.show.lines.TheConstants.{MOST_LINES}
use Rattle.lldp_text.specs.declared.writing.TheConstants.{LINE_ROOM, ROOM}
use Rattle.lldp_engine.specs.declared.agent.open_fault.OpenFault.{OpenFault}
use Rattle.lldp_engine.specs.declared.agent.open_fault.OpenFault.TheVariants as refusal
use Rattle.lldp_engine.specs.Event.{interval, hold}
use Rattle.lldp_engine.specs.AgentState.{AgentState, AllowsSetting}
use Rattle.lldp_engine.specs.Ranges.{most_interval, most_hold, most_ttl, most_ports, most_name}
use Rattle.lldp_transmit.specs.Ranges.{most_credit_max, most_fast_init, most_reinit}
use Rattle.lldp_table.specs.Ranges.{most_neighbors}
use Rattle.lldp_engine.specs.declared.agent.port_names.TheConstants.{MOST_NAME}
use Rattle.lldp_pdu.specs.declared.limits.TheConstants.{MOST_ADDRESS, MOST_BODY, MOST_IDENTIFIER, MOST_OCTETS, MOST_OID, MOST_TEXT}
use Rattle.lldp_pdu.specs.Range.{most_address, most_body, most_identifier, most_octets, most_oid, most_text}

-- Returns the number of a fault at opening.
abbrev pub number_of_refusal : OpenFault → ℕ
number_of_refusal refusal.Memory = 1
number_of_refusal refusal.NoPorts = 2
number_of_refusal refusal.TooManyPorts = 3
number_of_refusal refusal.PortName = 4
number_of_refusal refusal.SamePort = 5
number_of_refusal refusal.Text = 6

-- The constants have these values, and the faults at opening are numbered from 1 to 6.
pub record AreConstants : Type 0 where
  pub neighbors : MOST_NEIGHBORS ≡ most_neighbors
  pub credit : MOST_CREDIT ≡ most_credit_max
  pub fast : MOST_FAST ≡ most_fast_init
  pub wait : MOST_REINIT ≡ most_reinit
  pub interval : MOST_INTERVAL ≡ most_interval
  pub hold : MOST_HOLD ≡ most_hold
  pub ttl : MOST_TTL ≡ most_ttl
  pub octets : MOST_OCTETS ≡ most_octets
  pub body : MOST_BODY ≡ most_body
  pub identifier : MOST_IDENTIFIER ≡ most_identifier
  pub address : MOST_ADDRESS ≡ most_address
  pub oid : MOST_OID ≡ most_oid
  pub ports : MOST_PORTS ≡ most_ports
  pub name : MOST_NAME ≡ most_name
  pub text : MOST_TEXT ≡ most_text
  pub lines : MOST_LINES ≡ 6127808
  pub line : LINE_ROOM ≡ 2049
  pub room : ROOM ≡ 8192
  pub refusals : map number_of_refusal (refusal.Memory ∷ refusal.NoPorts ∷ refusal.TooManyPorts ∷ refusal.PortName ∷ refusal.SamePort ∷ refusal.Text ∷ [])
      ≡ 1 ∷ 2 ∷ 3 ∷ 4 ∷ 5 ∷ 6 ∷ []

-- Commands may set each tx-interval and each tx-hold from 1 on, up to the greatest, and no others.
pub record MaySet (agent : AgentState) (n : ℕ) : Type 0 where
  pub interval : AllowsSetting agent (interval n) ↔ ((0 < n) × (n < most_interval + 1))
  pub hold : AllowsSetting agent (hold n) ↔ ((0 < n) × (n < most_hold + 1))
