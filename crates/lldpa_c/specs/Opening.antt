-- The options with which C opens an agent.
use Rattle.std.specs.Prelude.{◌≡◌, ℕ, ◌==◌, map, take, ◌+◌, ◌⊎◌, true, false, Option, Some, None, IsSome, if◌then◌else◌}
use Rattle.std.specs.List.{All}
use Rattle.std.specs.Str.{IsUtf8}
use Rattle.lldp_engine.specs.declared.agent.options.Role.{Role}
use Rattle.lldp_engine.specs.declared.agent.options.Role.TheVariants.{Station, Bridge, Router}
use Rattle.lldp_engine.specs.declared.agent.open_fault.OpenFault.{OpenFault}
use Rattle.lldp_engine.specs.AgentState.{AgentState}
use Rattle.lldp_engine.specs.Options.{Options, InRange, fault_of}
use Rattle.lldp_engine.specs.Past.{opened}
use Rattle.lldp_engine.specs.Standing.{Stands}
use Rattle.lldpa_c.specs.declared.holder.LldpaAgent.{LldpaAgent}
use Rattle.lldpa_c.specs.declared.options.LldpaOptions.{LldpaOptions}
use Rattle.lldpa_c.specs.Faults.{refusal_number}
use Rattle.lldpa_c.specs.Frame.{Keeps}
use Rattle.lldp_engine.specs.Ranges.{most_ports}

-- the role with this number, if there is one
abbrev pub role_numbered : ℕ → Option Role
role_numbered n = if n == 0 then Some Station else if n == 1 then Some Bridge else if n == 2 then Some Router else None

-- the role, or a station if there is none
abbrev pub role_or_station : Option Role → Role
role_or_station None = Station
role_or_station (Some role) = role

-- the agent's options, from the struct for C
abbrev pub asked : LldpaOptions → Options
asked o = record {
  names = map (λ text. text.octets.now) o.ports.now;
  mac = o.mac;
  hostname = o.hostname.octets.now;
  management = if o.managed then Some o.management else None;
  role = role_or_station (role_numbered o.role);
  max_neighbors = o.max_neighbors;
  credit_max = o.credit_max;
  fast_init = o.fast_init;
  reinit = o.reinit;
  receive_only = o.receive_only;
}

-- The struct can be read: `role` is the number of a role, the first 65 names and the hostname are
-- UTF-8, and the four numbers are in their ranges.
pub record IsRead (o : LldpaOptions) : Type 0 where
  pub role : IsSome (role_numbered o.role)
  pub names : All (λ text. IsUtf8 text.octets.now) (take (most_ports + 1) o.ports.now)
  pub hostname : IsUtf8 o.hostname.octets.now
  pub range : InRange (asked o)

-- An agent is opened: the options are read and have no fault, and no event has happened yet.
pub record Opens (o : LldpaOptions) (agent : AgentState) : Type 0 where
  pub read : IsRead o
  pub checked : fault_of (asked o) ≡ None
  pub stands : Stands (opened (asked o)) agent

-- The contract of opening. The first of these that applies is answered: the handle is open, the options
-- cannot be read, they have a fault, or there is no memory. Otherwise an agent is opened.
pub record OpensOnce (o : LldpaOptions) (before : LldpaAgent) (answer : ℕ) (after : LldpaAgent) : Type 0 where
  pub is_open : answer ≡ 0 → after.is_open ≡ true
  pub agent : answer ≡ 0 → Opens o after.held.agent
  pub refused : ¬ (answer ≡ 0) → Keeps before after
  pub again : before.is_open ≡ true → answer ≡ 104
  pub range : before.is_open ≡ false → ¬ (IsRead o) → answer ≡ 100
  pub faulty : before.is_open ≡ false → IsRead o → (fault : OpenFault) → fault_of (asked o) ≡ Some fault → answer ≡ refusal_number fault
  pub others : before.is_open ≡ false → IsRead o → fault_of (asked o) ≡ None → (answer ≡ 0) ⊎ (answer ≡ 21)
