-- What an agent says about its host, in the struct for C.
use Rattle.std.specs.Prelude.{◌≡◌, ℕ, if◌then◌else◌, Some, None, take, drop, replicate}
use Rattle.lldp_engine.specs.declared.agent.options.Role.{Role}
use Rattle.lldp_engine.specs.declared.agent.options.Role.TheVariants.{Station, Bridge, Router}
use Rattle.lldp_engine.specs.AgentState.{AgentState}
use Rattle.lldpa_c.specs.declared.chassis.LldpaChassis.{LldpaChassis}
use Rattle.lldp_pdu.specs.Range.{most_text}

-- the number of a role
abbrev pub role_number : Role → ℕ
role_number Station = 0
role_number Bridge = 1
role_number Router = 2

-- The parts of the configuration that frames report are written: each text is followed by zeros,
-- and zeros stand for an address that the host does not have.
pub record TellsChassis (agent : AgentState) (told : LldpaChassis) : Type 0 where
  pub mac : told.mac ≡ agent.configuration.mac
  pub role : told.role ≡ role_number agent.configuration.role
  pub management : (if told.managed then Some told.management else None) ≡ agent.configuration.management
  pub none : agent.configuration.management ≡ None → told.management ≡ replicate 4 0
  pub hostname : take told.hostname_length told.hostname ≡ agent.configuration.hostname
  pub behind_hostname : drop told.hostname_length told.hostname ≡ drop told.hostname_length (replicate most_text 0)
  pub description : take told.description_length told.description ≡ agent.configuration.description
  pub behind_description :
      drop told.description_length told.description ≡ drop told.description_length (replicate most_text 0)
