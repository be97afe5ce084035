-- The settings of an agent, in the struct for C.
use Rattle.std.specs.Prelude.{◌≡◌, ℕ, length, map, take, drop, replicate}
use Rattle.lldp_engine.specs.declared.port.status.Status.{Status}
use Rattle.lldp_engine.specs.declared.port.status.Status.TheVariants.{RxAndTx, RxOnly, TxOnly, Disabled}
use Rattle.lldp_engine.specs.Configuration.{sent_ttl}
use Rattle.lldp_engine.specs.AgentState.{AgentState}
use Rattle.lldpa_c.specs.declared.settings.LldpaConfiguration.{LldpaConfiguration}
use Rattle.lldp_engine.specs.Ranges.{most_ports}

-- the number of a status
abbrev pub status_number : Status → ℕ
status_number RxAndTx = 0
status_number RxOnly = 1
status_number TxOnly = 2
status_number Disabled = 3

-- The current settings are written: each number, and each port's status, followed by zeros.
pub record TellsConfiguration (agent : AgentState) (told : LldpaConfiguration) : Type 0 where
  pub interval : told.interval ≡ agent.configuration.interval
  pub hold : told.hold ≡ agent.configuration.hold
  pub ttl : told.ttl ≡ sent_ttl agent.configuration
  pub reinit : told.reinit ≡ agent.configuration.reinit
  pub fast_init : told.fast_init ≡ agent.configuration.fast_init
  pub credit_max : told.credit_max ≡ agent.configuration.credit_max
  pub max_neighbors : told.max_neighbors ≡ agent.configuration.limit
  pub ports : told.ports ≡ length agent.ports
  pub status : take told.ports told.status ≡ map (λ port. status_number port.status) agent.ports
  pub others : drop told.ports told.status ≡ drop told.ports (replicate most_ports 0)
