-- Copies lines to the caller's buffer.
use Rattle.std.specs.Prelude.{◌≡◌, ℕ, ◌+◌, ◌≤◌, ◌%◌, ◌^◌, Bool, true, false, nat_le, List, [], ◌∷◌, ◌++◌, length, take, drop}
use Rattle.lldp_text.specs.Text.{ended}
use Rattle.lldpa_c.specs.declared.lines.Filling.{Filling}

-- the progress in a show: the number of octets used, the line to continue with, the octets written,
-- and whether a line did not fit
pub record View : Type 0 where
  pub used : ℕ
  pub next : ℕ
  pub text : List ℕ
  pub is_full : Bool

-- nothing is written, and `from` is the next line
abbrev pub begun : ℕ → View
begun from = record { used = 0; next = from; text = []; is_full = false }

-- adds a text if it fits (true); otherwise marks the buffer as full
abbrev pub put_if : Bool → View → List ℕ → View
put_if true v text = record v { used = v.used + length text; text = v.text ++ text; next = (v.next + 1) % 2 ^ 32 }
put_if false v text = record v { is_full = true }

-- adds a text if it fits, unless the buffer was marked as full before
abbrev pub put_unless : Bool → ℕ → View → List ℕ → View
put_unless true size v text = v
put_unless false size v text = put_if (nat_le (v.used + length text) size) v text

abbrev pub come_all : ℕ → View → List (List ℕ) → View
come_all size v [] = v
come_all size v (line ∷ lines) = come_all size (put_unless v.is_full size v (ended line)) lines

-- the progress before the line in `line` is copied
abbrev pub settled : Filling → View
settled f = record { used = f.used; next = f.next; text = take f.used f.room.now; is_full = f.is_full }

-- the progress after the line in `line` is copied, if a line waits there and fits
abbrev pub with_waiting : Bool → Filling → View
with_waiting true f = put_unless f.is_full (length f.room.now) (settled f) f.line
with_waiting false f = settled f

abbrev pub view : Filling → View
view f = with_waiting f.is_waiting f

-- the octets after the used ones are unchanged
pub record LeavesRest (old new : Filling) : Type 0 where
  pub grows : old.used ≤ new.used
  pub rest : drop new.used new.room.now ≡ drop new.used old.room.now

-- the sink accepted this line
pub record TakesLine (old new : Filling) (line : List ℕ) : Type 0 where
  pub view : view new ≡ put_unless (view old).is_full (length old.room.now) (view old) (ended line)
  pub rest : LeavesRest old new
  pub size : length new.room.now ≡ length old.room.now
  pub same : new.room.ghost_name ≡ old.room.ghost_name
