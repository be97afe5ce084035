use Rattle.std.proofs.Common.{◌≡◌, ℕ, ◌<◌, ◌⊎◌, Bool, true, false, inl, inr, List, length, Option, refl, ◌∙◌, arith}
use Rattle.std.proofs.lemmas.Bool.{lt-ltb, le-ltb}
use Rattle.lldp_pdu.specs.Msap.{IsIdentifier}
use Rattle.lldp_table.specs.Events.{Neighbor}
use Rattle.lldpa_c.specs.declared.build.LldpaTlv.{LldpaTlv}
use Rattle.lldpa_c.specs.declared.held.LldpaHeld.{LldpaHeld}
use Rattle.lldpa_c.specs.declared.holder.LldpaAgent.{LldpaAgent}
use Rattle.lldpa_c.specs.Building.{Builds}
use Rattle.lldpa_c.specs.Held.{open_checks, count_checks, found_checks}
use Rattle.lldpa_c.specs.Reading.{Reads, ReadsFound}
use Rattle.lldpa_c.specs.Laws.Order.{IsClosed, HasNoPort, IsNoIdentifier}
use Rattle.lldpa_c.specs.Laws.Refused.{SparesClosed, SparesNoPort}
use Rattle.lldpa_c.proofs.Lengths.{no_identifier, is_or_not}
use Rattle.lldpa_c.proofs.laws.refused_calls_write_nothing.Goals as goal

-- ---- calls that read an agent

module _ {A : Type 0} (IsRight : A → Type 0) (before after : LldpaAgent) (told_before told : A) (answer : ℕ) where
  of_agent : Reads (open_checks before) IsRight before told_before answer after told → SparesClosed before told_before answer after told
  of_agent r closed =
      let a : answer ≡ 102 = r.answer_is ∙ rw closed refl in
      (a, r.kept.is_open ∙ closed, r.refused (λ z. absurd (omega (arith, a, z))))

  of_port : (port : ℕ) → Reads (count_checks before port) IsRight before told_before answer after told → SparesNoPort before port told_before answer after told
  of_port port r = (
    λ closed.
        let a : answer ≡ 102 = r.answer_is ∙ rw closed refl in
        (a, r.kept.is_open ∙ closed, r.refused (λ z. absurd (omega (arith, a, z)))),
    λ opened past.
        let a : answer ≡ 103 = r.answer_is ∙ rw (opened, le-ltb port (length before.held.agent.ports) past) refl in
        (a, r.kept.is_open ∙ opened, r.kept.agent opened, r.refused (λ z. absurd (omega (arith, a, z)))),
    λ opened within. r.answer_is ∙ rw (opened, lt-ltb port (length before.held.agent.ports) within) refl,
  )

module _ (before after : LldpaAgent) (port answer : ℕ) (room_before room : List ℕ) (told_before told : LldpaHeld) (found : Option Neighbor) where
  not_there : (b : Bool) → before.is_open ≡ b → ReadsFound (found_checks before port found (length room_before)) found before room_before told_before answer after room told
      → IsClosed before ⊎ HasNoPort before port ⊎ (¬ (answer ≡ 0)) → (room ≡ room_before) × (told ≡ told_before)
  not_there false is r wrong =
      let a : answer ≡ 102 = r.answer_is ∙ rw is refl in
      r.refused (λ z. absurd (omega (arith, a, z)))
  not_there true is r wrong = elim wrong [
    | inl closed ↦ absurd cc (closed, is)
    | inr others ↦ elim others [
      | inl past ↦
          let a : answer ≡ 103 = r.answer_is ∙ rw (is, le-ltb port (length before.held.agent.ports) past) refl in
          r.refused (λ z. absurd (omega (arith, a, z)))
      | inr refused ↦ r.refused refused
    ]
  ]

-- ---- building

module _ (chassis port faults_before faults room_before room : List ℕ) (ttl written_before answer written : ℕ) (tlvs : List LldpaTlv)
    (b : Builds chassis port ttl tlvs faults_before room_before written_before answer faults room written) where
  out_of_range : ¬ (IsIdentifier chassis × IsIdentifier port) → (faults ≡ faults_before) × (room ≡ room_before) × (written ≡ written_before)
  out_of_range wrong =
      let a = b.range wrong in
      let same = b.refused (λ z. absurd (omega (arith, a.0, z))) in
      (a.1, same.0, same.1)

  too_few : length faults_before < length tlvs → (faults ≡ faults_before) × (room ≡ room_before) × (written ≡ written_before)
  too_few few = elim (is_or_not chassis) [
    | inl wrong ↦ out_of_range (λ both. no_identifier chassis wrong both.0)
    | inr one ↦ elim (is_or_not port) [
      | inl wrong ↦ out_of_range (λ both. no_identifier port wrong both.1)
      | inr two ↦
          let a = b.short one two few in
          let same = b.refused (λ z. absurd (omega (arith, a.0, z))) in
          (a.1, same.0, same.1)
    ]
  ]

  unbuilt : IsNoIdentifier chassis ⊎ IsNoIdentifier port ⊎ (length faults_before < length tlvs) → (faults ≡ faults_before) × (room ≡ room_before) × (written ≡ written_before)
  unbuilt wrong = elim wrong [
    | inl one ↦ out_of_range (λ both. no_identifier chassis one both.0)
    | inr others ↦ elim others [ inl two ↦ out_of_range (λ both. no_identifier port two both.1) | inr few ↦ too_few few ]
  ]

pub returns : goal.returns
returns c = record {
  neighbor_counts = λ before after port count_before answer count r. of_port _ before after count_before count answer port r;
  aged_counts = λ before after port count_before answer count r. of_port _ before after count_before count answer port r;
  statistics = λ before after port answer told_before told r. of_port _ before after told_before told answer port r;
  settings = λ before after answer told_before told r. of_agent _ before after told_before told answer r;
  chassis = λ before after answer told_before told r. of_agent _ before after told_before told answer r;
  due = λ before after seconds_before answer seconds r. of_agent _ before after seconds_before seconds answer r;
  neighbors = λ before after port index answer room_before room told_before told r wrong.
      not_there before after port answer room_before room told_before told _ _ refl r wrong;
  aged = λ before after port index answer room_before room told_before told r wrong.
      not_there before after port answer room_before room told_before told _ _ refl r wrong;
  building = λ chassis port faults_before faults room_before room ttl written_before answer written tlvs b wrong.
      unbuilt chassis port faults_before faults room_before room ttl written_before answer written tlvs b wrong;
  built = λ chassis port faults_before faults room_before room ttl written_before answer written tlvs b refused. b.refused refused;
}
