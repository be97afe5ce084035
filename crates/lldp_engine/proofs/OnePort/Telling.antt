-- What a frame tells one port.
use Rattle.std.proofs.Common.{◌≡◌, ℕ, ◌+◌, ◌<◌, Bool, true, false, List, length, Option, Some, None, refl, ap, arith}
use Rattle.std.specs.Prelude.{◌==◌, if◌then◌else◌, is_some, option_and_then}
use Rattle.std.specs.Option.{option_map}
use Rattle.std.proofs.lemmas.Bool.Decides.{nat_tests}
use Rattle.lldp_pdu.specs.Msap.{MsapId}
use Rattle.lldp_pdu.specs.Fault.{fault_of}
use Rattle.lldp_pdu.specs.Lldpdu.{extent, ttl_of, msap_of}
use Rattle.lldp_pdu.specs.declared.fault.PduFault.{PduFault}
use Rattle.lldp_table.specs.declared.learned.Outcome.{Outcome}
use Rattle.lldp_table.specs.declared.learned.Outcome.TheVariants.{Added, Changed, Repeated, NoRoom}
use Rattle.lldp_table.specs.Contents.{Contents, holds_name, IsSound}
use Rattle.lldp_table.specs.Code.Steps.{after_forget, after_learn}
use Rattle.lldp_table.specs.Outcomes.{store_outcome}
use Rattle.lldp_table.proofs.Outcomes.{more_by, held_octets, outcome_between_is, outcome_grows, forget_shrinks}
use Rattle.lldp_engine.specs.Heard.{refused as refuses, leaves, tells as says, heard_of}
use Rattle.lldp_engine.specs.Port.Effects.{call_of}
use Rattle.lldp_engine.specs.Code.PortStep.{with_call}
use Rattle.lldp_engine.specs.Told.{Told, refused, not_lldp, deaf, stored, left, is_new, is_gone, told_of_pdu, told_of_frame, TellsFrame}
use Rattle.lldp_engine.specs.Code.Telling.{pdu_tells, octets_tell}

-- ## What an examined LLDPDU tells

module _ (table : Contents) (pdu : List ℕ) where
  pub tells_refused : (fault : PduFault) → Some fault ≡ fault_of pdu → refused fault ≡ pdu_tells table pdu (fault_of pdu)
  tells_refused fault f = rw (← f) refl

  pub tells_left : None ≡ fault_of pdu → ttl_of pdu ≡ 0 → left (msap_of pdu) (holds_name table (msap_of pdu)) ≡ pdu_tells table pdu (fault_of pdu)
  tells_left f t = rw (← f, t) refl

  pub tells_stored : None ≡ fault_of pdu → 0 < ttl_of pdu → stored (msap_of pdu) (store_outcome table (msap_of pdu) (extent pdu)) ≡ pdu_tells table pdu (fault_of pdu)
  tells_stored f t = let some : (ttl_of pdu == 0) ≡ false = grind (arith, nat_tests) in rw (← f, some) refl

-- ## What it says of the table

steady : (hears : Bool) (o : Option (List ℕ)) (table : Contents) (told : Told) → told ≡ told_of_frame hears o table table → is_new told ≡ false → is_gone told ≡ false → TellsFrame hears o table table told
steady hears o table told is new gone = record {
  is = is;
  new = (λ e. absurd cc, λ e. absurd (omega (arith, e)));
  gone = (λ e. absurd cc, λ e. absurd (omega (arith, e)));
}

record Counts (told : Told) (before after : Contents) : Type 0 where
  new : (is_new told ≡ true → length after.neighbors ≡ 1 + length before.neighbors) × (length after.neighbors ≡ 1 + length before.neighbors → is_new told ≡ true)
  gone : (is_gone told ≡ true → 1 + length after.neighbors ≡ length before.neighbors) × (1 + length after.neighbors ≡ length before.neighbors → is_gone told ≡ true)

stored_counts : (name : MsapId) (outcome : Outcome) (before after : Contents) → length after.neighbors ≡ more_by outcome + length before.neighbors → Counts (stored name outcome) before after
stored_counts name Added before after e = record { new = (λ _. e, λ _. refl); gone = (λ h. absurd cc, λ h. absurd (omega (arith, h, e))) }
stored_counts name Changed before after e = record { new = (λ h. absurd cc, λ h. absurd (omega (arith, h, e))); gone = (λ h. absurd cc, λ h. absurd (omega (arith, h, e))) }
stored_counts name Repeated before after e = record { new = (λ h. absurd cc, λ h. absurd (omega (arith, h, e))); gone = (λ h. absurd cc, λ h. absurd (omega (arith, h, e))) }
stored_counts name NoRoom before after e = record { new = (λ h. absurd cc, λ h. absurd (omega (arith, h, e))); gone = (λ h. absurd cc, λ h. absurd (omega (arith, h, e))) }

left_counts : (name : MsapId) (held : Bool) (before after : Contents) → length after.neighbors + (if held then 1 else 0) ≡ length before.neighbors → Counts (left name held) before after
left_counts name true before after e = record { new = (λ h. absurd cc, λ h. absurd (omega (arith, h, e))); gone = (λ _. omega (arith, e), λ _. refl) }
left_counts name false before after e = record { new = (λ h. absurd cc, λ h. absurd (omega (arith, h, e))); gone = (λ h. absurd cc, λ h. absurd (omega (arith, h, e))) }

module _ (table : Contents) (pdu : List ℕ) where
  abbrev after : Option PduFault → Bool → Contents
  after f b = with_call table (call_of (if is_some f then refuses else (if b then leaves (msap_of pdu) else says pdu)))

  frame_is : (told : Told) (next : Contents) → told ≡ told_of_pdu pdu (fault_of pdu) table next → Counts told table next → TellsFrame true (Some pdu) table next told
  frame_is told next is counts = record { is = is; new = counts.new; gone = counts.gone }

  tells_at_ttl : (b : Bool) → (ttl_of pdu == 0) ≡ b → None ≡ fault_of pdu → IsSound table
      → TellsFrame true (Some pdu) table (after None b) (if b then left (msap_of pdu) (holds_name table (msap_of pdu)) else stored (msap_of pdu) (store_outcome table (msap_of pdu) (extent pdu)))
  tells_at_ttl true e f sound =
      let name = msap_of pdu in
      frame_is (left name (holds_name table name)) (after_forget table name) (rw (← f, e) (ap (left name) (held_octets table name)))
      (left_counts name (holds_name table name) table (after_forget table name) (forget_shrinks table name sound))
  tells_at_ttl false e f sound =
      let name = msap_of pdu in
      let ttl = ttl_of pdu in
      let outcome = store_outcome table name (extent pdu) in
      frame_is (stored name outcome) (after_learn table name ttl (extent pdu)) (rw (← f, e) (ap (stored name) (outcome_between_is table name ttl (extent pdu) refl refl)))
      (stored_counts name outcome table (after_learn table name ttl (extent pdu)) (outcome_grows table name ttl (extent pdu)))

  tells_at_fault : (f : Option PduFault) → f ≡ fault_of pdu → IsSound table → TellsFrame true (Some pdu) table (after f (ttl_of pdu == 0)) (pdu_tells table pdu f)
  tells_at_fault (Some fault) e sound = steady true (Some pdu) table (refused fault) (rw (← e) refl) refl refl
  tells_at_fault None e sound = tells_at_ttl (ttl_of pdu == 0) refl e sound

pub tells_frame : (table : Contents) (b : Bool) (o : Option (List ℕ)) → IsSound table
    → TellsFrame b o table (with_call table (option_and_then call_of (if b then option_map heard_of o else None))) (if b then octets_tell table o else deaf)
unfolding heard_of
tells_frame table true (Some pdu) sound = tells_at_fault table pdu (fault_of pdu) refl sound
tells_frame table true None sound = steady true None table not_lldp refl refl refl
tells_frame table false o sound = steady false o table deaf refl refl refl
