-- Lines of a show, as many as fit in the caller's buffer.
use Rattle.std.specs.Prelude.{◌≡◌, ℕ, ◌+◌, ◌-◌, ◌<◌, ◌≤◌, true, false, not, max, List, [], ◌∷◌, length, take, drop, Option, Some, is_none, slice_get, option_and_then}
use Rattle.std.specs.List.{flat_map}
use Rattle.std.specs.Option.{option_map}
use Rattle.lldp_pdu.specs.Check.{Check}
use Rattle.lldp_text.specs.Text.{ended}
use Rattle.lldp_engine.specs.declared.command.Show.{Show}
use Rattle.lldp_engine.specs.AgentState.{AgentState}
use Rattle.lldp_engine.specs.Lines.{lines_of}
use Rattle.lldpa_c.specs.declared.holder.LldpaAgent.{LldpaAgent}
use Rattle.lldpa_c.specs.declared.lines.LldpaLines.{LldpaLines}
use Rattle.lldpa_c.specs.declared.answer.TheConstants.{OUT_OF_RANGE, NO_ROOM, NOT_OPEN}
use Rattle.lldpa_c.specs.Answer.{is_over}
use Rattle.lldpa_c.specs.Command.{show_numbered}

-- these octets are the lines `from` to `next` - 1, each with its line feed
pub record Fills (lines : List (List ℕ)) (from next : ℕ) (octets : List ℕ) : Type 0 where
  pub order : from ≤ next
  pub are : octets ≡ flat_map ended (take (next - from) (drop from lines))

-- line `next` exists, and does not fit after the first `used` octets of a buffer of `room` octets
pub record IsFull (lines : List (List ℕ)) (next room used : ℕ) : Type 0 where
  pub line : List ℕ
  pub is : slice_get lines next ≡ Some line
  pub over : room < used + length line + 1

-- The lines `from` to `next` - 1 of a show were written to the start of a buffer. If `done` is
-- true, no line is left, and `next` is the number of lines, or `from` if that is greater. Otherwise
-- at least one line was written, and line `next` does not fit.
pub record Filled (agent : AgentState) (number from : ℕ) (told : LldpaLines) (room : List ℕ) : Type 0 where
  pub show : Show
  pub numbered : show_numbered number ≡ Some show
  pub lines : Fills (lines_of show agent) from told.next (take told.length room)
  pub done : told.done ≡ true → told.next ≡ max from (length (lines_of show agent))
  pub some : told.done ≡ false → from < told.next
  pub full : told.done ≡ false → IsFull (lines_of show agent) told.next (length room) told.length

-- a line of the show with this number, if the show and the line exist
abbrev pub line_numbered : AgentState → ℕ → ℕ → Option (List ℕ)
line_numbered agent number line = option_and_then (λ show. slice_get (lines_of show agent) line) (show_numbered number)

-- No lines are written if no show has this number, the handle is not open, or line `from` exists
-- and does not fit in `room` octets with its line feed.
abbrev pub lines_checks : LldpaAgent → ℕ → ℕ → ℕ → List (Check ℕ)
lines_checks handle number from room =
    record { fails = is_none (show_numbered number); fault = OUT_OF_RANGE }
    ∷ record { fails = not handle.is_open; fault = NOT_OPEN }
    ∷ record { fails = is_over room (option_map ended (line_numbered handle.held.agent number from)); fault = NO_ROOM }
    ∷ []
