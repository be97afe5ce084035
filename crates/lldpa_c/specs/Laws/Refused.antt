-- Calls that change an agent or are refused, and TLVs that are not written.
use Rattle.std.specs.Prelude.{◌≡◌, ℕ, ◌+◌, ◌<◌, ◌⊎◌, true, List, length, None, Ok}
use Rattle.lldp_transmit.specs.declared.event.Mark.{Mark}
use Rattle.lldp_engine.specs.declared.command.Show.{Show}
use Rattle.lldp_engine.specs.declared.port.counters.Counters.{Counters}
use Rattle.lldp_engine.specs.Command.{show}
use Rattle.lldp_engine.specs.Event as event
use Rattle.lldp_engine.specs.Given.{command_given}
use Rattle.lldpa_c.specs.declared.build.LldpaTlv.{LldpaTlv}
use Rattle.lldpa_c.specs.declared.chassis.LldpaChassis.{LldpaChassis}
use Rattle.lldpa_c.specs.declared.held.LldpaHeld.{LldpaHeld}
use Rattle.lldpa_c.specs.declared.holder.LldpaAgent.{LldpaAgent}
use Rattle.lldpa_c.specs.declared.marks.LldpaMarks.{LldpaMarks}
use Rattle.lldpa_c.specs.declared.settings.LldpaConfiguration.{LldpaConfiguration}
use Rattle.lldpa_c.specs.declared.ticks.LldpaTicks.{LldpaTicks}
use Rattle.lldpa_c.specs.Agent.{Answers}
use Rattle.lldpa_c.specs.Building.{Builds}
use Rattle.lldpa_c.specs.Command.{Obeyed}
use Rattle.lldpa_c.specs.Frame.{Keeps}
use Rattle.lldpa_c.specs.Leaving.{Left}
use Rattle.lldpa_c.specs.Reading.{ReadsNeighborCount, ReadsAgedCount, ReadsStatistics, ReadsConfiguration, ReadsChassis, ReadsDue, ReadsNeighbor, ReadsAged}
use Rattle.lldpa_c.specs.Ticks.{TicksTaken, Takes as TakesTicks}
use Rattle.lldpa_c.specs.Values.{tlv_value}
use Rattle.lldpa_c.specs.Laws.Order.{IsClosed, HasNoPort, IsNoIdentifier}
use Rattle.lldpa_c.specs.Laws.Passed.{AreItems}
use Rattle.lldp_pdu.specs.Range.{most_body}

-- A call that answers another number than 0 changes nothing. One that answers 0 does what it is for
-- (`ArePassedOn` says this of events), and the agent stays open. A command that shows changes no
-- agent, and sends nothing.
pub record AreAllOrNothing : Type 0 where
  pub events : (before after : LldpaAgent) (event : event.Event) (answer : ℕ) (told_before told : LldpaMarks) →
      Answers before event told_before answer after told →
      ¬ (answer ≡ 0) → Keeps before after × (told ≡ told_before)
  pub commands : (before after : LldpaAgent) (line : List ℕ) (show_before show answer : ℕ) (told_before told : LldpaMarks) →
      Obeyed before line show_before told_before answer after show told →
      (answer ≡ 0 → after.is_open ≡ true)
      × (¬ (answer ≡ 0) → Keeps before after × (show ≡ show_before) × (told ≡ told_before))
  pub shows : (before after : LldpaAgent) (line : List ℕ) (show_before asked answer : ℕ) (told_before told : LldpaMarks) (what : Show) →
      Obeyed before line show_before told_before answer after asked told → before.is_open ≡ true →
      command_given before.held.agent line ≡ Ok (show what) → (after.held.agent ≡ before.held.agent) × (told.count ≡ 0)
  pub ticks : (before after : LldpaAgent) (asked answer : ℕ) (marks_before marks : LldpaMarks) (told_before told : LldpaTicks) →
      TicksTaken before asked marks_before told_before answer after marks told →
      (answer ≡ 0 → (after.is_open ≡ true)
      × ((sent : List (ℕ × Mark)) × AreItems sent marks × TakesTicks asked told.taken before.held.agent after.held.agent sent told.aged_out))
      × (¬ (answer ≡ 0) → Keeps before after × (marks ≡ marks_before) × (told ≡ told_before))
  pub leaving : (before after : LldpaAgent) (answer : ℕ) (marks_before marks : LldpaMarks) → Left before marks_before answer after marks →
      (answer ≡ 0 → after.is_open ≡ true) × (¬ (answer ≡ 0) → Keeps before after × (marks ≡ marks_before))

-- a closed agent is told by 102: nothing is written, and it stays closed
abbrev pub SparesClosed : {A : Type 0} → LldpaAgent → A → ℕ → LldpaAgent → A → Type 0
SparesClosed before told_before answer after told = IsClosed before → (answer ≡ 102) × IsClosed after × (told ≡ told_before)

-- so is, by 103, the number of a port that an open agent does not have. With no such error the answer is 0.
abbrev pub SparesNoPort : {A : Type 0} → LldpaAgent → ℕ → A → ℕ → LldpaAgent → A → Type 0
SparesNoPort before port told_before answer after told =
    SparesClosed before told_before answer after told
    × (before.is_open ≡ true → HasNoPort before port →
    (answer ≡ 103) × (after.is_open ≡ true) × (after.held.agent ≡ before.held.agent) × (told ≡ told_before))
    × (before.is_open ≡ true → port < length before.held.agent.ports → answer ≡ 0)

-- Calls that read an agent write nothing if they are refused. Nor does building write to the buffer; and if
-- an identifier has another length or the numbers of the faults do not fit, none of these is written.
pub record AreSpared : Type 0 where
  pub neighbor_counts : (before after : LldpaAgent) (port count_before answer count : ℕ) →
      ReadsNeighborCount before port count_before answer after count → SparesNoPort before port count_before answer after count
  pub aged_counts : (before after : LldpaAgent) (port count_before answer count : ℕ) →
      ReadsAgedCount before port count_before answer after count → SparesNoPort before port count_before answer after count
  pub statistics : (before after : LldpaAgent) (port answer : ℕ) (told_before told : Counters) →
      ReadsStatistics before port told_before answer after told → SparesNoPort before port told_before answer after told
  pub settings : (before after : LldpaAgent) (answer : ℕ) (told_before told : LldpaConfiguration) →
      ReadsConfiguration before told_before answer after told → SparesClosed before told_before answer after told
  pub chassis : (before after : LldpaAgent) (answer : ℕ) (told_before told : LldpaChassis) →
      ReadsChassis before told_before answer after told → SparesClosed before told_before answer after told
  pub due : (before after : LldpaAgent) (seconds_before answer seconds : ℕ) →
      ReadsDue before seconds_before answer after seconds → SparesClosed before seconds_before answer after seconds
  pub neighbors : (before after : LldpaAgent) (port index answer : ℕ) (room_before room : List ℕ) (told_before told : LldpaHeld) →
      ReadsNeighbor before port index room_before told_before answer after room told →
      IsClosed before ⊎ HasNoPort before port ⊎ (¬ (answer ≡ 0)) →
      (room ≡ room_before) × (told ≡ told_before)
  pub aged : (before after : LldpaAgent) (port index answer : ℕ) (room_before room : List ℕ) (told_before told : LldpaHeld) →
      ReadsAged before port index room_before told_before answer after room told →
      IsClosed before ⊎ HasNoPort before port ⊎ (¬ (answer ≡ 0)) →
      (room ≡ room_before) × (told ≡ told_before)
  pub building : (chassis port faults_before faults room_before room : List ℕ) (ttl written_before answer written : ℕ) (tlvs : List LldpaTlv) →
      Builds chassis port ttl tlvs faults_before room_before written_before answer faults room written →
      IsNoIdentifier chassis ⊎ IsNoIdentifier port ⊎ (length faults_before < length tlvs) →
      (faults ≡ faults_before) × (room ≡ room_before) × (written ≡ written_before)
  pub built : (chassis port faults_before faults room_before room : List ℕ) (ttl written_before answer written : ℕ) (tlvs : List LldpaTlv) →
      Builds chassis port ttl tlvs faults_before room_before written_before answer faults room written → ¬ (answer ≡ 0) →
      (room ≡ room_before) × (written ≡ written_before)

-- An End and a TTL have no text, nor have TLVs of types from 128 on, or of more than 511 octets.
pub record AreNotWritten : Type 0 where
  pub end : (body : List ℕ) → tlv_value 0 body ≡ None
  pub ttl : (body : List ℕ) → tlv_value 3 body ≡ None
  pub greater : (n : ℕ) (body : List ℕ) → tlv_value (128 + n) body ≡ None
  pub longer : (kind : ℕ) (body : List ℕ) → most_body < length body → tlv_value kind body ≡ None
