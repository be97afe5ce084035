-- How an output buffers text and writes it to its sink.
use Rattle.std.specs.Prelude.{◌≡◌, ℕ, List, [], ◌++◌, Option, Result, Ok, Err, OnOk, codes}
use Rattle.std.specs.Borrow.{GName}
use Rattle.std.specs.Io.KnownBytes.{Appends}
use Rattle.lldp_program.specs.declared.device.DeviceFault.{DeviceFault}
use Rattle.lldp_program.specs.Devices.Counts.{failures_after}
use Rattle.lldp_program.specs.Trace.Runs.{IsCutOff}
use Rattle.hex.specs.Hex.{encode_lower}
use Rattle.lldp_program.specs.Trace.Lines.{ended}

-- some text with this property was written
abbrev pub IsWritten : (List ℕ → Type 0) → Option (List ℕ) → Option (List ℕ) → Type 0
IsWritten P old new = (part : List ℕ) × P part × Appends old new part

-- Ok: all of the text was written. Err: a part of it was written, but not all.
abbrev pub WrittenBy : Result (Unit {0}) DeviceFault → List ℕ → Option (List ℕ) → Option (List ℕ) → Type 0
WrittenBy (Ok done) text old new = Appends old new text
WrittenBy (Err fault) text old new = IsWritten (IsCutOff text) old new

-- text was added after the buffered text: the sink took the first octets, `waits` has the rest
pub record GoesOut (old : Option (List ℕ)) (waited : List ℕ) (new : Option (List ℕ)) (waits : List ℕ) (text : List ℕ) :
    Type 0 where
  pub sent : List ℕ
  pub in_order : waited ++ text ≡ sent ++ waits
  pub taken : Appends old new sent

-- The state of an output: the octets that its sink took, how many writes failed, where the sink
-- writes to, the reference to the sink, the buffered text (`waits`), and the answer so far.
pub record Output : Type 0 where
  pub taken : Option (List ℕ)
  pub failures : ℕ
  pub place : GName
  pub sink : GName
  pub waits : List ℕ
  pub answer : Result (Unit {0}) DeviceFault

-- the sink is the same, and has counted one more failure if this answer is a fault
pub record SameSink {T : Type 0} (answer : Result T DeviceFault) (old new : Output) : Type 0 where
  pub failures : new.failures ≡ failures_after old.failures answer
  pub place : new.place ≡ old.place
  pub sink : new.sink ≡ old.sink

-- Ok: the text was added to the buffered text. Err: only a part of both texts was written.
abbrev pub Went : Result (Unit {0}) DeviceFault → List ℕ → Output → Output → Type 0
Went (Ok done) text old new = GoesOut old.taken old.waits new.taken new.waits text
Went (Err fault) text old new = IsWritten (IsCutOff (old.waits ++ text)) old.taken new.taken

-- the effect of adding a text if no write has failed before
pub record Goes (text : List ℕ) (old new : Output) : Type 0 where
  pub went : Went new.answer text old new
  pub same : SameSink new.answer old new

-- the effect of adding a text: nothing changes if a write has failed before
abbrev pub GoesBehind : Result (Unit {0}) DeviceFault → List ℕ → Output → Output → Type 0
GoesBehind (Ok done) text old new = Goes text old new
GoesBehind (Err fault) text old new = new ≡ old

-- A text was added, or a write failed. If a write had failed before, nothing changed.
abbrev pub Puts : List ℕ → Output → Output → Type 0
Puts text old new = GoesBehind old.answer text old new

-- all buffered text was written, or a write failed
pub record Flushes (old new : Output) : Type 0 where
  pub puts : Puts [] old new
  pub none : OnOk new.answer (new.waits ≡ [])

-- the output at the beginning of a text: the buffer is empty, and no write has failed
abbrev pub begun : Output → Output
begun output = record output { waits = []; answer = Ok tt }

-- a text was written, or a write failed
pub record Writes (text : List ℕ) (answer : Result (Unit {0}) DeviceFault) (old new : Output) : Type 0 where
  pub written : WrittenBy answer text old.taken new.taken
  pub same : SameSink answer old new

-- the line `tx NAME HEX` for a frame of a port, in lower case hexadecimal and with its LF
abbrev pub sent_line : List ℕ → List ℕ → List ℕ
sent_line name frame = ended (codes "tx " ++ name ++ codes " " ++ encode_lower frame)
