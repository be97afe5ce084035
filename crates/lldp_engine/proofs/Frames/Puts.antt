-- An LLDPDU can be built from the content of each frame.
use Rattle.std.proofs.Common.{true, ◌≡◌, ℕ, ◌+◌, ◌^◌, ◌<◌, ◌≤◌, ◌⊎◌, inl, inr, List, [], ◌∷◌, length, Option, Some, None, refl, arith, append-nil}
use Rattle.std.specs.Prelude.{IfSome}
use Rattle.std.proofs.lemmas.Bool.{le-leb}
use Rattle.std.proofs.lemmas.List.{length-append}
use Rattle.std.proofs.lemmas.List.Concat.{flat_map-append}
use Rattle.lldp_pdu.specs.WellFormed.{is_well_formed}
use Rattle.lldp_pdu.specs.Tlv.{TlvUnit, spellings}
use Rattle.lldp_pdu.specs.Draft.{Draft, CanPutEach, CanBuild, with_tlv, all_tlvs}
use Rattle.lldp_transmit.specs.declared.event.Mark.TheVariants.{Ordinary}
use Rattle.lldp_engine.specs.declared.agent.options.Role.{Role}
use Rattle.lldp_engine.specs.declared.agent.options.Role.TheVariants.{Station, Bridge, Router}
use Rattle.lldp_engine.specs.Configuration.{Configuration, sent_ttl}
use Rattle.lldp_engine.specs.Code.ShortText.{HasShortTexts}
use Rattle.lldp_engine.specs.Frames.{unit, sent_msap, capabilities_of, management_body, management_tlvs, draft_of}
use Rattle.std.proofs.lemmas.Grind.{common_steps}

grown : (d : Draft) (u : TlvUnit) → length (spellings (all_tlvs (with_tlv d u))) ≡ length (spellings (all_tlvs d)) + length u.body + 2
grown d u = grind (arith, common_steps, flat_map-append, length-append, append-nil)

text_fits : (kind : ℕ) (text : List ℕ) → (kind ≡ 4) ⊎ (kind ≡ 5) ⊎ (kind ≡ 6) → length text ≤ 255 → is_well_formed (unit kind text) ≡ true
unfolding is_well_formed
text_fits kind text (inl k) h = rw k (le-leb (length text) 255 h)
text_fits kind text (inr (inl k)) h = rw k (le-leb (length text) 255 h)
text_fits kind text (inr (inr k)) h = rw k (le-leb (length text) 255 h)

station_fits : is_well_formed (unit 7 (capabilities_of Station)) ≡ true
unfolding is_well_formed
station_fits = refl

bridge_fits : is_well_formed (unit 7 (capabilities_of Bridge)) ≡ true
unfolding is_well_formed
bridge_fits = refl

router_fits : is_well_formed (unit 7 (capabilities_of Router)) ≡ true
unfolding is_well_formed
router_fits = refl

management_fits : (address : List ℕ) → length address ≡ 4 → is_well_formed (unit 8 (management_body address)) ≡ true
unfolding is_well_formed
management_fits (a ∷ b ∷ c ∷ d ∷ []) h = refl
management_fits other h = absurd (omega arith)

role_fits : (role : Role) → is_well_formed (unit 7 (capabilities_of role)) ≡ true
role_fits Station = station_fits
role_fits Bridge = bridge_fits
role_fits Router = router_fits

four : (role : Role) → length (capabilities_of role) ≡ 4
four Station = refl
four Bridge = refl
four Router = refl

module _ (c : Configuration) (name : List ℕ) (some : 0 < length name) (short : length name ≤ 15) (mac : length c.mac ≡ 6) where
  abbrev begun : ℕ → Draft
  begun ttl = record { msap = sent_msap c name; ttl = ttl; tlvs = [] }

  begun_length : (ttl : ℕ) → length (spellings (all_tlvs (begun ttl))) ≤ 31
  begun_length ttl = grind (arith, common_steps, length-append)

  abbrev first : Draft
  first = with_tlv (begun (sent_ttl c)) (unit 4 name)

  abbrev second : Draft
  second = with_tlv first (unit 5 c.hostname)

  abbrev third : Draft
  third = with_tlv second (unit 6 c.description)

  abbrev fourth : Draft
  fourth = with_tlv third (unit 7 (capabilities_of c.role))

  first_length : length (spellings (all_tlvs first)) ≤ 48
  first_length = omega (arith, begun_length (sent_ttl c), grown (begun (sent_ttl c)) (unit 4 name), short)

  lives : 0 < sent_ttl c
  lives = omega arith

  can_begin : (ttl : ℕ) → ttl < 2 ^ 16 → (us : List TlvUnit) → CanPutEach (begun ttl) us → CanBuild (record { msap = sent_msap c name; ttl = ttl; tlvs = us })
  can_begin ttl fits us puts = grind (arith, common_steps)

  module _ (h : HasShortTexts c) where
    second_length : length (spellings (all_tlvs second)) ≤ 305
    second_length = omega (arith, first_length, grown first (unit 5 c.hostname), h.hostname)

    third_length : length (spellings (all_tlvs third)) ≤ 562
    third_length = omega (arith, second_length, grown second (unit 6 c.description), h.description)

    fourth_length : length (spellings (all_tlvs fourth)) ≤ 568
    fourth_length = omega (arith, third_length, grown third (unit 7 (capabilities_of c.role)), four c.role)

    twelve : (address : List ℕ) → length address ≡ 4 → length (management_body address) ≡ 12
    twelve address k = omega (arith, k, length-append (5 ∷ 1 ∷ address) (1 ∷ 0 ∷ 0 ∷ 0 ∷ 0 ∷ 0 ∷ []))

    can_manage : (address : Option (List ℕ)) → IfSome address (λ a. length a ≡ 4) → CanPutEach fourth (management_tlvs address)
    can_manage None k = tt
    can_manage (Some address) k = grind (arith, common_steps, lives, twelve, management_fits, fourth_length)

    can_describe : CanPutEach (begun (sent_ttl c)) (draft_of c name Ordinary).tlvs
    can_describe = grind (arith, common_steps, lives, text_fits, begun_length, first_length, second_length, four, role_fits, third_length, can_manage)

    pub can_tell : CanBuild (draft_of c name Ordinary)
    can_tell = can_begin (sent_ttl c) (omega arith) (draft_of c name Ordinary).tlvs can_describe
