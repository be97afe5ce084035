-- When a limit is in use.
use Rattle.std.specs.Prelude.{◌≡◌, ℕ, ◌<◌, ◌≤◌, List, length, Some, Ok}
use Rattle.std.specs.List.{All, Any}
use Rattle.lldp_engine.specs.AgentState.{AgentState}
use Rattle.lldp_engine.specs.Event.{limit}
use Rattle.lldp_engine.specs.Command.{set}
use Rattle.lldp_engine.specs.Given.{said_by}
use Rattle.lldp_text.specs.Words.{words_of}

-- Some port holds more than `most` neighbors.
abbrev pub HoldsMore : AgentState → ℕ → Type 0
HoldsMore agent most = Any (λ port. most < length port.table.neighbors) agent.ports

-- Every port holds at most `most` neighbors.
abbrev pub HoldAtMost : AgentState → ℕ → Type 0
HoldAtMost agent most = All (λ port. length port.table.neighbors ≤ most) agent.ports

-- The words of the line would set a limit, and some port holds more neighbors than that limit.
abbrev pub WouldLimitBelow : AgentState → List ℕ → Type 0
WouldLimitBelow agent line =
    (words : List (List ℕ)) × (most : ℕ) × (words_of line ≡ Some words) × (said_by agent words ≡ Ok (set (limit most)))
    × HoldsMore agent most
