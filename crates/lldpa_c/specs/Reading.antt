-- The contracts of calls that read an agent.
use Rattle.std.specs.Prelude.{◌≡◌, ℕ, List, length, drop, Option, Some, slice_get}
use Rattle.std.specs.Option.{option_map}
use Rattle.lldp_pdu.specs.Check.{Check}
use Rattle.lldp_table.specs.Events.{Neighbor}
use Rattle.lldp_engine.specs.declared.port.counters.Counters.{Counters}
use Rattle.lldpa_c.specs.declared.chassis.LldpaChassis.{LldpaChassis}
use Rattle.lldpa_c.specs.declared.held.LldpaHeld.{LldpaHeld}
use Rattle.lldpa_c.specs.declared.holder.LldpaAgent.{LldpaAgent}
use Rattle.lldpa_c.specs.declared.settings.LldpaConfiguration.{LldpaConfiguration}
use Rattle.lldpa_c.specs.Answer.{answer_of}
use Rattle.lldpa_c.specs.Chassis.{TellsChassis}
use Rattle.lldpa_c.specs.Due.{IsDue}
use Rattle.lldpa_c.specs.Frame.{Keeps}
use Rattle.lldpa_c.specs.Held.{open_checks, count_checks, neighbor_checks, gone_checks, neighbors_at, gone_at, TellsNeighbor}
use Rattle.lldpa_c.specs.Settings.{TellsConfiguration}

-- The answer is the number of the first of these checks that fails, and nothing is written; or it is
-- 0, and what is written is right. The agent stays as it is.
pub record Reads {A : Type 0} (checks : List (Check ℕ)) (IsRight : A → Type 0) (before : LldpaAgent) (told_before : A) (answer : ℕ)
    (after : LldpaAgent) (told : A) : Type 0 where
  pub answer_is : answer ≡ answer_of checks
  pub right : answer ≡ 0 → IsRight told
  pub kept : Keeps before after
  pub refused : ¬ (answer ≡ 0) → told ≡ told_before

abbrev pub ReadsNeighborCount : LldpaAgent → ℕ → ℕ → ℕ → LldpaAgent → ℕ → Type 0
ReadsNeighborCount before port count_before answer after count =
    Reads (count_checks before port) (λ (n : ℕ). n ≡ length (neighbors_at before.held.agent port)) before count_before answer after count

abbrev pub ReadsAgedCount : LldpaAgent → ℕ → ℕ → ℕ → LldpaAgent → ℕ → Type 0
ReadsAgedCount before port count_before answer after count =
    Reads (count_checks before port) (λ (n : ℕ). n ≡ length (gone_at before.held.agent port)) before count_before answer after count

abbrev pub ReadsStatistics : LldpaAgent → ℕ → Counters → ℕ → LldpaAgent → Counters → Type 0
ReadsStatistics before port told_before answer after told =
    Reads (count_checks before port)
    (λ (counters : Counters). option_map (λ p. p.counters) (slice_get before.held.agent.ports port) ≡ Some counters)
    before told_before answer after told

abbrev pub ReadsConfiguration : LldpaAgent → LldpaConfiguration → ℕ → LldpaAgent → LldpaConfiguration → Type 0
ReadsConfiguration before told_before answer after told =
    Reads (open_checks before) (TellsConfiguration before.held.agent) before told_before answer after told

abbrev pub ReadsChassis : LldpaAgent → LldpaChassis → ℕ → LldpaAgent → LldpaChassis → Type 0
ReadsChassis before told_before answer after told =
    Reads (open_checks before) (TellsChassis before.held.agent) before told_before answer after told

abbrev pub ReadsDue : LldpaAgent → ℕ → ℕ → LldpaAgent → ℕ → Type 0
ReadsDue before seconds_before answer after seconds =
    Reads (open_checks before) (IsDue before.held.agent) before seconds_before answer after seconds

-- The same for a neighbor, if it was found: its LLDPDU is written to the start of a buffer, whose rest
-- stays as it was.
pub record ReadsFound (checks : List (Check ℕ)) (found : Option Neighbor) (before : LldpaAgent) (room_before : List ℕ) (told_before : LldpaHeld)
    (answer : ℕ) (after : LldpaAgent) (room : List ℕ) (told : LldpaHeld) : Type 0 where
  pub answer_is : answer ≡ answer_of checks
  pub right : (neighbor : Neighbor) → found ≡ Some neighbor → answer ≡ 0 → TellsNeighbor neighbor room told
  pub rest : answer ≡ 0 → drop told.pdu.extent room ≡ drop told.pdu.extent room_before
  pub kept : Keeps before after
  pub refused : ¬ (answer ≡ 0) → (room ≡ room_before) × (told ≡ told_before)

abbrev pub ReadsNeighbor : LldpaAgent → ℕ → ℕ → List ℕ → LldpaHeld → ℕ → LldpaAgent → List ℕ → LldpaHeld → Type 0
ReadsNeighbor before port index room_before told_before answer after room told =
    ReadsFound (neighbor_checks before port index (length room_before)) (slice_get (neighbors_at before.held.agent port) index)
    before room_before told_before answer after room told

abbrev pub ReadsAged : LldpaAgent → ℕ → ℕ → List ℕ → LldpaHeld → ℕ → LldpaAgent → List ℕ → LldpaHeld → Type 0
ReadsAged before port index room_before told_before answer after room told =
    ReadsFound (gone_checks before port index (length room_before)) (slice_get (gone_at before.held.agent port) index)
    before room_before told_before answer after room told
