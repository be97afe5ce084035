-- Which calls the counts of devices count.
use Rattle.std.specs.Prelude.{◌≡◌, ◌<◌, ◌⊎◌, ◌↔◌, ℕ, ◌+◌, [], ◌∷◌, map, Result, Ok, Err}
use Rattle.lldp_program.specs.Devices.Counts.{one_more, failures_after, ends_after}
use Rattle.lldp_program.specs.Trace.Runs.{EndsTold, read_failures_after, write_failures_after}
use Rattle.lldp_program.specs.declared.device.DeviceFault.{DeviceFault}
use Rattle.lldp_program.specs.declared.trace.RunFault.{RunFault}
use Rattle.lldp_program.specs.declared.trace.RunFault.TheVariants.{Read, Write, InputTooLong}

-- A count rises by one, and stops at 2^64 - 1. Failures rise at a failed call alone, and ends at a
-- read of no octets alone. In a run reads fail only if it returns Read, and writes only if it
-- returns Write; the end was reached once if it returns Ok, and at most once if it returns Write.
pub record CountsCalls (n m : ℕ) : Type 0 where
  pub next : n < 18446744073709551615 → one_more n ≡ n + 1
  pub last : one_more 18446744073709551615 ≡ 18446744073709551615
  pub worked : failures_after {X = ℕ} {E = DeviceFault} n (Ok m) ≡ n
  pub failed : (fault : DeviceFault) → failures_after {X = ℕ} n (Err fault) ≡ one_more n
  pub end : ends_after {E = DeviceFault} n (Ok 0) ≡ one_more n
  pub some : ends_after {E = DeviceFault} n (Ok (m + 1)) ≡ n
  pub none : (fault : DeviceFault) → ends_after n (Err fault) ≡ n
  pub reads : map (λ (r : Result (Unit {0}) RunFault). read_failures_after n r) (Ok tt ∷ Err Read ∷ Err Write ∷ Err InputTooLong ∷ [])
      ≡ n ∷ one_more n ∷ n ∷ n ∷ []
  pub writes : map (λ (r : Result (Unit {0}) RunFault). write_failures_after n r) (Ok tt ∷ Err Read ∷ Err Write ∷ Err InputTooLong ∷ [])
      ≡ n ∷ n ∷ one_more n ∷ n ∷ []
  pub all : EndsTold {T = Unit {0}} n m (Ok tt) ↔ (m ≡ one_more n)
  pub read : EndsTold {T = Unit {0}} n m (Err Read) ↔ (m ≡ n)
  pub wrote : EndsTold {T = Unit {0}} n m (Err Write) ↔ ((m ≡ n) ⊎ (m ≡ one_more n))
  pub long : EndsTold {T = Unit {0}} n m (Err InputTooLong) ↔ (m ≡ n)
