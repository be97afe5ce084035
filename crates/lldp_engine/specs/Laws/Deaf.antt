-- Which ports hear LLDPDUs, by their last status command and their last link event.
use Rattle.std.specs.Prelude.{ℕ, ◌⊎◌, true}
use Rattle.lldp_engine.specs.declared.port.status.Status.{Status as PortStatus}
use Rattle.lldp_engine.specs.declared.port.status.Status.TheVariants.{RxAndTx, RxOnly}
use Rattle.lldp_engine.specs.Past.{Past}
use Rattle.lldp_engine.specs.Laws.LastSet.{IsLastStatus, IsLastLink}

-- Port i has this status, from its last status command or else from the options.
abbrev pub HasStatus : Past → ℕ → PortStatus → Type 0
HasStatus past i given = IsLastStatus past.options i past.events given

-- Port i hears if its last status is RxAndTx or RxOnly and its last link event, if any, says up.
pub record Hears (past : Past) (i : ℕ) : Type 0 where
  pub status : HasStatus past i RxAndTx ⊎ HasStatus past i RxOnly
  pub link : IsLastLink i past.events true
