-- The writer that a sink of lines lends.
use Rattle.std.specs.Prelude.{◌≡◌, ℕ, ◌+◌, ◌≤◌, List, ◌++◌, length, Option, Some, None}
use Rattle.std.specs.Borrow.{Fml, RattleType, MutBor, LendsSo}
use Rattle.lldp_text.specs.contracts.writing.Writer.{the_row as writer_row}
use Rattle.lldp_text.specs.declared.writing.TheConstants.{LINE_ROOM}
use Rattle.lldp_text.specs.Text.{ended}

-- The sink takes the line appended to the lent writer, at most 2,049 octets with its line feed.
abbrev pub TakesWritten : {S : Type 0} → (S → S → List ℕ → Type 0) → S → Option (MutBor (List ℕ)) → S → List ℕ → Type 0
TakesWritten takes old lent new text =
    (writer : MutBor (List ℕ)) (line : List ℕ) → lent ≡ Some writer → text ≡ writer.now ++ ended line
    → length text ≤ length writer.now + LINE_ROOM → takes old new line

-- A sink that lends no writer takes any line.
abbrev pub TakesAny : {S : Type 0} → (S → S → List ℕ → Type 0) → S → Option (MutBor (List ℕ)) → S → Type 0
TakesAny takes old lent new = (line : List ℕ) → lent ≡ None → takes old new line

-- A sink lends a writer and takes what is written there, or lends none and takes any line.
abbrev pub LendsRoom : (Sink : RattleType) → (Sink.Denot → Sink.Denot → List ℕ → Type 0) → MutBor Sink.Denot →
    Option (MutBor (List ℕ)) → Fml
LendsRoom Sink takes sink lent =
    LendsSo Sink writer_row sink lent (λ new text. TakesWritten takes sink.now lent new text)
    (λ new. TakesAny takes sink.now lent new)
