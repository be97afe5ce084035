-- The state of a one-line sink.
use Rattle.std.specs.Prelude.{◌≡◌, ℕ, suc, zero, ◌-◌, ◌≤◌, List, length, take, Bool, true, false, Option, Some, None, if◌then◌else◌}
use Rattle.lldp_engine.specs.declared.show.one_line.OneLine.{OneLine}
use Rattle.lldp_text.specs.declared.writing.TheConstants.{LINE_ROOM}
use Rattle.lldp_text.specs.Text.{ended}

-- The sink skips `before` lines, keeps the next one, and does not change after that.
abbrev pub after_line : ℕ → Bool → List ℕ → List ℕ → OneLine
after_line before true kept line = record { before = before; came = true; line = kept }
after_line zero false kept line = record { before = 0; came = true; line = ended line }
after_line (suc before) false kept line = record { before = before; came = false; line = kept }

-- The sink took this line. What it keeps never grows beyond 2,049 octets, line feed included.
abbrev pub KeepsOne : OneLine → OneLine → List ℕ → Type 0
KeepsOne old new line =
    (new ≡ after_line old.before old.came old.line line) × (length old.line ≤ LINE_ROOM → length new.line ≤ LINE_ROOM)

-- Returns the wanted line without its line feed, if it was written.
abbrev pub line_kept : OneLine → Option (List ℕ)
line_kept sink = if sink.came then Some (take (length sink.line - 1) sink.line) else None
