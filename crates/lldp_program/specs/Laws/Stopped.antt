-- What a run has done if its output failed.
use Rattle.std.specs.Prelude.{◌≡◌, ℕ, ◌+◌, ◌<◌, ◌≤◌, List, ◌++◌, length, take, Option}
use Rattle.std.specs.Io.KnownBytes.{Appends}
use Rattle.lldp_engine.specs.AgentState.{AgentState}
use Rattle.lldp_engine.specs.Past.{Past}
use Rattle.lldp_engine.specs.Standing.{Stands}
use Rattle.lldp_program.specs.Trace.Items.{Item, after_all, text_of_all}

-- The agent did the first items, and the last of these is the one whose output failed. Their text was
-- written up to a place in the text of the last one, before its end.
pub record StopsInOrder (past : Past) (items : List Item) (old new : Option (List ℕ)) (agent : AgentState) : Type 0 where
  pub before : ℕ
  pub there : before < length items
  pub stands : Stands (after_all past (take (1 + before) items)) agent
  pub text : List ℕ
  pub rest : List ℕ
  pub written : Appends old new text
  pub in_order : text_of_all past (take (1 + before) items) ≡ text ++ rest
  pub least : length (text_of_all past (take before items)) ≤ length text
  pub some_left : 0 < length rest
