-- How far a run has come.
use Rattle.std.proofs.Common.{◌≡◌, ◌≤◌, ℕ, List, length, take, Option}
use Rattle.std.specs.Io.KnownBytes.{Consumes}
use Rattle.lldp_engine.specs.AgentState.{AgentState}
use Rattle.lldp_engine.specs.Past.{Past}
use Rattle.lldp_engine.specs.Standing.{Stands}
use Rattle.lldp_program.specs.Trace.Items.{items_of_lines}
use Rattle.lldp_program.specs.Trace.Runs.{Done}
use Rattle.lldp_program.specs.Code.Pieces.{pieces, unfinished}

-- Each of `reads` reads returned at least one octet. Each line whose LF was read is done, and
-- `held` is the first 4,097 octets of the unfinished line.
pub record Progress (to_come left old new : Option (List ℕ)) (before after : AgentState) (reads : ℕ) (held : List ℕ) : Type 0 where
  pub input : List ℕ
  pub consumed : Consumes to_come left input
  pub many : reads ≤ length input
  pub front : held ≡ take 4097 (unfinished input)
  pub done : (past : Past) → Stands past before → Done past (items_of_lines past (pieces input)) old new after
