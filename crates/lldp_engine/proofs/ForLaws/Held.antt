-- The neighbors that a port holds after it receives a frame.
use Rattle.std.proofs.Common.{◌≡◌, ℕ, ◌+◌, ◌<◌, ◌≤◌, Bool, true, false, ◌⊎◌, inl, inr, List, [], ◌∷◌, ◌++◌, length, map, Option, Some, None, refl, ap, ◌∙◌, arith}
use Rattle.std.specs.Prelude.{◌&&◌, not, if◌then◌else◌, ◌==◌, filter, is_some, option_and_then}
use Rattle.std.specs.List.{cons_option}
use Rattle.std.specs.Option.{option_map}
use Rattle.std.proofs.lemmas.Bool.{cases_Bool}
use Rattle.std.proofs.lemmas.Bool.Decides.{nat_tests}
use Rattle.std.proofs.lemmas.List.{length-map, length-append}
use Rattle.lldp_pdu.specs.Msap.{MsapId}
use Rattle.lldp_pdu.specs.Frame.{lldpdu_of}
use Rattle.lldp_pdu.specs.Fault.{fault_of}
use Rattle.lldp_pdu.specs.Lldpdu.{extent, ttl_of, msap_of}
use Rattle.lldp_pdu.specs.declared.fault.PduFault.{PduFault}
use Rattle.lldp_table.specs.Msap.{same_msap}
use Rattle.lldp_table.specs.Events.{Call, learn, forget, TableEvent, learned, Neighbor, events_of, answer, neighbors, live}
use Rattle.lldp_table.specs.Code.Steps.{fresh, refreshed}
use Rattle.lldp_table.specs.declared.learned.Learned.{Learned}
use Rattle.lldp_table.specs.declared.learned.Learned.TheVariants.{New, Refreshed, Dropped}
use Rattle.lldp_table.proofs.Msap.{same_msap-refl}
use Rattle.lldp_table.proofs.Live.Events.{by_new, by_refreshed, neighbors-new, neighbors-refreshed, neighbors-dropped, neighbors-forgot}
use Rattle.lldp_table.proofs.Standing.Calls.{events-more}
use Rattle.lldp_transmit.specs.declared.event.Cause.{Cause}
use Rattle.lldp_transmit.specs.declared.event.Cause.TheVariants.{Neighbor as NeighborCause, Nothing}
use Rattle.lldp_engine.specs.declared.port.status.Status.{Status}
use Rattle.lldp_engine.specs.Status.{receives}
use Rattle.lldp_engine.specs.Heard.{Heard, refused, leaves, tells, heard_of, heard_by}
use Rattle.lldp_engine.specs.Laws.Neighbors.{others_than}
use Rattle.lldp_engine.specs.Port.Effects.{call_of, cause_of_answer, cause_of_heard}

-- ## The three kinds of heard LLDPDUs: refused, with a TTL of 0, with a TTL above 0

module _ (P : Heard → Type 0) (pdu : List ℕ) where
  heard_as : (f : Option PduFault) (b : Bool) → fault_of pdu ≡ f → (ttl_of pdu == 0) ≡ b
      → ((fault : PduFault) → fault_of pdu ≡ Some fault → P refused) → (fault_of pdu ≡ None → ttl_of pdu ≡ 0 → P (leaves (msap_of pdu))) → (fault_of pdu ≡ None → 0 < ttl_of pdu → P (tells pdu))
      → P (if is_some f then refused else (if b then leaves (msap_of pdu) else tells pdu))
  heard_as (Some fault) b f t r l k = r fault f
  heard_as None true f t r l k = l f (grind (arith, nat_tests))
  heard_as None false f t r l k = k f (grind (arith, nat_tests))

  pub heard_cases : ((fault : PduFault) → fault_of pdu ≡ Some fault → P refused) → (fault_of pdu ≡ None → ttl_of pdu ≡ 0 → P (leaves (msap_of pdu))) → (fault_of pdu ≡ None → 0 < ttl_of pdu → P (tells pdu)) → P (heard_of pdu)
  unfolding heard_of
  heard_cases r l k = heard_as (fault_of pdu) (ttl_of pdu == 0) refl refl r l k

heard_or_none : (P : Option Heard → Type 0) (b : Bool) (pdu : Option (List ℕ)) → P None → ((octets : List ℕ) → pdu ≡ Some octets → P (Some (heard_of octets))) → P (if b then option_map heard_of pdu else None)
heard_or_none P true None n s = n
heard_or_none P true (Some octets) n s = s octets refl
heard_or_none P false pdu n s = n

pub by_heard : (P : Option Heard → Type 0) (given : Status) (up : Bool) (octets : List ℕ) → P None → ((pdu : List ℕ) → lldpdu_of octets ≡ Some pdu → P (Some (heard_of pdu))) → P (heard_by given up octets)
by_heard P given up octets n s = heard_or_none P (receives given && up) (lldpdu_of octets) n s

-- ## Neighbors with other MSAP identifiers

filter_twice : (p : Neighbor → Bool) (xs : List Neighbor) → filter p (filter p xs) ≡ filter p xs
filter_twice p [] = refl
filter_twice p (x ∷ xs) = elim (cases_Bool (p x)) [ inl t ↦ rw (t, t) (ap (λ ys. x ∷ ys) (filter_twice p xs)) | inr f ↦ rw f (filter_twice p xs) ]

fresh_dropped : (name : MsapId) (ttl : ℕ) (octets : List ℕ) (rest : List Neighbor) → others_than name (fresh name ttl octets ∷ rest) ≡ others_than name rest
fresh_dropped name ttl octets rest = rw same_msap-refl refl

others_new : (name : MsapId) (ttl : ℕ) (octets : List ℕ) (xs : List Neighbor) → others_than name (xs ++ fresh name ttl octets ∷ []) ≡ others_than name xs
others_new name ttl octets [] = fresh_dropped name ttl octets []
others_new name ttl octets (x ∷ xs) =
    ap (λ ys. if not (same_msap name x.msap) then x ∷ ys else ys) (others_new name ttl octets xs)

others_refreshed : (name : MsapId) (ttl : ℕ) (octets : List ℕ) (xs : List Neighbor) → others_than name (map (refreshed name ttl octets) xs) ≡ others_than name xs
others_refreshed name ttl octets [] = refl
others_refreshed name ttl octets (x ∷ xs) =
    elim (cases_Bool (same_msap name x.msap)) [
      | inl t ↦ rw t (fresh_dropped name ttl octets (map (refreshed name ttl octets) xs) ∙ others_refreshed name ttl octets xs)
      | inr f ↦ rw (f, f) (ap (λ ys. x ∷ ys) (others_refreshed name ttl octets xs))
    ]

shorter : (p : Neighbor → Bool) (xs : List Neighbor) → length (filter p xs) ≤ length xs
shorter p [] = omega arith
shorter p (x ∷ xs) = elim (cases_Bool (p x)) [ inl t ↦ rw t (omega (arith, shorter p xs)) | inr f ↦ rw f (omega (arith, shorter p xs)) ]

none_is : (o : Option Neighbor) → is_some o ≡ false → o ≡ None
none_is None h = refl
none_is (Some x) h = cc

module _ (opened : ℕ) (calls : List Call) where
  abbrev past : List TableEvent
  past = events_of opened calls

  -- the neighbors after this LLDPDU, if any, was heard
  abbrev pub held_after : Option Heard → List Neighbor
  held_after h = neighbors (events_of opened (cons_option (option_and_then call_of h) calls))

  -- the neighbors after an LLDPDU with a TTL above 0: one added, one refreshed, or no change
  abbrev told_as : Learned → MsapId → ℕ → List ℕ → List Neighbor → List Neighbor
  told_as New name ttl octets xs = xs ++ fresh name ttl octets ∷ []
  told_as Refreshed name ttl octets xs = map (refreshed name ttl octets) xs
  told_as Dropped name ttl octets xs = xs

  told_by : (name : MsapId) (ttl : ℕ) (octets : List ℕ) (a : Learned) → answer opened name past ≡ a → 0 < ttl → neighbors (learned name ttl octets a ∷ past) ≡ told_as a name ttl octets (neighbors past)
  told_by name ttl octets New e t = neighbors-new name ttl octets past t (none_is (live name past) (by_new (is_some (live name past)) _ e).0)
  told_by name ttl octets Refreshed e t = neighbors-refreshed name ttl octets past t (by_refreshed (is_some (live name past)) _ e)
  told_by name ttl octets Dropped e t = neighbors-dropped name ttl octets past

  after_tells : (pdu : List ℕ) → 0 < ttl_of pdu → held_after (Some (tells pdu)) ≡ told_as (answer opened (msap_of pdu) past) (msap_of pdu) (ttl_of pdu) (extent pdu) (neighbors past)
  after_tells pdu t = ap neighbors (events-more opened (learn (msap_of pdu) (ttl_of pdu) (extent pdu)) calls) ∙ told_by (msap_of pdu) (ttl_of pdu) (extent pdu) (answer opened (msap_of pdu) past) refl t

  pub after_leaves : (name : MsapId) → held_after (Some (leaves name)) ≡ others_than name (neighbors past)
  after_leaves name = ap neighbors (events-more opened (forget name) calls) ∙ neighbors-forgot name past

  others_told : (a : Learned) (name : MsapId) (ttl : ℕ) (octets : List ℕ) (xs : List Neighbor) → others_than name (told_as a name ttl octets xs) ≡ others_than name xs
  others_told New name ttl octets xs = others_new name ttl octets xs
  others_told Refreshed name ttl octets xs = others_refreshed name ttl octets xs
  others_told Dropped name ttl octets xs = refl

  -- An LLDPDU does not change the neighbors with other MSAP identifiers.
  pub others_stay : (pdu : List ℕ) → others_than (msap_of pdu) (held_after (Some (heard_of pdu))) ≡ others_than (msap_of pdu) (neighbors past)
  others_stay pdu =
      heard_cases (λ h. others_than (msap_of pdu) (held_after (Some h)) ≡ others_than (msap_of pdu) (neighbors past)) pdu (λ fault f. refl)
      (λ f t. ap (others_than (msap_of pdu)) (after_leaves (msap_of pdu)) ∙ filter_twice (λ x. not (same_msap (msap_of pdu) x.msap)) (neighbors past))
      (λ f t. ap (others_than (msap_of pdu)) (after_tells pdu t) ∙ others_told (answer opened (msap_of pdu) past) (msap_of pdu) (ttl_of pdu) (extent pdu) (neighbors past))

  -- ## One more neighbor

  abbrev answers : MsapId → Learned
  answers name = answer opened name past

  -- The cause is Neighbor if there is one more neighbor than before, and Nothing if there is not.
  abbrev pub IsGain : Cause → List Neighbor → Type 0
  IsGain cause held = ((length held ≡ 1 + length (neighbors past)) × (cause ≡ NeighborCause)) ⊎ ((length held ≤ length (neighbors past)) × (cause ≡ Nothing))

  told_gains : (a : Learned) (name : MsapId) (ttl : ℕ) (octets : List ℕ) → IsGain (cause_of_answer a) (told_as a name ttl octets (neighbors past))
  told_gains New name ttl octets = inl (simp length-append (omega arith), refl)
  told_gains Refreshed name ttl octets = inr (omega (arith, length-map (neighbors past) (refreshed name ttl octets)), refl)
  told_gains Dropped name ttl octets = inr (omega arith, refl)

  heard_gains : (pdu : List ℕ) → IsGain (cause_of_heard answers (Some (heard_of pdu))) (held_after (Some (heard_of pdu)))
  heard_gains pdu =
      heard_cases (λ h. IsGain (cause_of_heard answers (Some h)) (held_after (Some h))) pdu (λ fault f. inr (omega arith, refl))
      (λ f t. inr (rw (after_leaves (msap_of pdu)) (shorter (λ x. not (same_msap (msap_of pdu) x.msap)) (neighbors past)), refl))
      (λ f t. rw (after_tells pdu t) (told_gains (answers (msap_of pdu)) (msap_of pdu) (ttl_of pdu) (extent pdu)))

  pub gains : (given : Status) (up : Bool) (octets : List ℕ) → IsGain (cause_of_heard answers (heard_by given up octets)) (held_after (heard_by given up octets))
  gains given up octets = by_heard (λ h. IsGain (cause_of_heard answers h) (held_after h)) given up octets (inr (omega arith, refl)) (λ pdu e. heard_gains pdu)
