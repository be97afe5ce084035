-- How a call changes the counts of a device and the octets that it reports.
use Rattle.std.specs.Prelude.{◌≡◌, ℕ, ◌+◌, ◌-◌, ◌^◌, min, List, take, Option, Result, Ok, Err, is_ok, ◌==◌, if◌then◌else◌}
use Rattle.std.specs.Io.KnownBytes.{Consumes, Keeps, IsAtEnd}

-- one more, but at most 2^64 - 1
abbrev pub one_more : ℕ → ℕ
one_more n = min (n + 1) (2 ^ 64 - 1)

-- the number of failed calls after a call with this answer
abbrev pub failures_after : {X E : Type 0} → ℕ → Result X E → ℕ
failures_after failures answer = if is_ok answer then failures else one_more failures

-- the number of reads that returned the end (0 octets) after a read with this answer
abbrev pub ends_after : {E : Type 0} → ℕ → Result ℕ E → ℕ
ends_after ends (Ok n) = if n == 0 then one_more ends else ends
ends_after ends (Err fault) = ends

-- n octets were read to the front of `octets`, and n is 0 only at the end; or the read failed.
abbrev pub ReadsMore : {E : Type 0} → Option (List ℕ) → Option (List ℕ) → List ℕ → Result ℕ E → Type 0
ReadsMore old new octets (Ok n) = Consumes old new (take n octets) × (n ≡ 0 → IsAtEnd new)
ReadsMore old new octets (Err fault) = Keeps old new
