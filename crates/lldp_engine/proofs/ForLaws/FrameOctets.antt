-- The octets of frames that are sent.
use Rattle.std.proofs.Common.{◌≡◌, ℕ, zero, suc, ◌+◌, ◌*◌, ◌/◌, ◌%◌, ◌<◌, ◌≤◌, List, [], ◌∷◌, ◌++◌, length, get_or, Option, Some, None, refl, ap, ◌∙◌, arith, append_assoc, append-nil}
use Rattle.std.specs.Prelude.{IfSome}
use Rattle.std.specs.Int.{w16, to_be_bytes, from_be_bytes}
use Rattle.std.proofs.lemmas.Nat.{be_bytes_2}
use Rattle.std.proofs.lemmas.List.{length-append}
use Rattle.lldp_pdu.specs.Frame.{nearest_bridge, lldp_ethertype}
use Rattle.lldp_pdu.specs.Tlv.{spelling, spellings}
use Rattle.lldp_pdu.specs.Draft.{end_of_lldpdu}
use Rattle.lldp_transmit.specs.declared.event.Mark.TheVariants.{Ordinary, Shutdown}
use Rattle.lldp_engine.specs.declared.agent.options.Role.{Role}
use Rattle.lldp_engine.specs.declared.agent.options.Role.TheVariants.{Station, Bridge, Router}
use Rattle.lldp_engine.specs.Configuration.{Configuration, sent_ttl}
use Rattle.lldp_engine.specs.Frames.{unit, capabilities_of, management_tlvs, management_body, frame_of}
use Rattle.lldp_engine.specs.Laws.FrameOctets.{HasLengths, tlv_octets, capability_octets, management_octets, ordinary_octets, shutdown_octets}

-- ## Numbers in two octets

both_small : (a b i : ℕ) → a < 256 → b < 256 → get_or (a ∷ b ∷ []) i 0 < 256
both_small a b zero l m = l
both_small a b (suc zero) l m = m
both_small a b (suc (suc i)) l m = omega arith

two_octets : (n a b : ℕ) → a < 256 → b < 256 → n ≡ 256 * a + b → to_be_bytes w16 n ≡ a ∷ b ∷ []
two_octets n a b l m e =
    let read : n ≡ from_be_bytes w16 (a ∷ b ∷ []) = omega arith in
    be_bytes_2 (a ∷ b ∷ []) n refl (λ i. both_small a b i l m) read

-- ## TLVs

one_tlv : (kind twice : ℕ) (body : List ℕ) → kind < 128 → twice ≡ 2 * kind → length body ≤ 255 → spelling (unit kind body) ≡ tlv_octets twice body
one_tlv kind twice body k e l =
    ap (λ (header : List ℕ). header ++ body) (two_octets (512 * kind + length body) twice (length body) (omega arith) (omega arith) (omega arith))

ttl_spelled : (n : ℕ) → n ≤ 65535 → spelling (unit 3 (to_be_bytes w16 n)) ≡ tlv_octets 0x06 (n / 256 ∷ n % 256 ∷ [])
ttl_spelled n l =
    ap (λ (body : List ℕ). spelling (unit 3 body)) (two_octets n (n / 256) (n % 256) (omega arith) (omega arith) (omega arith))
    ∙ one_tlv 3 0x06 (n / 256 ∷ n % 256 ∷ []) (omega arith) refl (omega arith)

role_spelled : (role : Role) → spelling (unit 7 (capabilities_of role)) ≡ capability_octets role
role_spelled Station = refl
role_spelled Bridge = refl
role_spelled Router = refl

management_spelled : (address : Option (List ℕ)) → IfSome address (λ a. length a ≡ 4) → spellings (management_tlvs address) ≡ management_octets address
management_spelled None l = refl
management_spelled (Some address) l =
    append-nil (spelling (unit 8 (management_body address)))
    ∙ one_tlv 8 0x10 (management_body address) (omega arith) refl (omega (arith, l, length-append (5 ∷ 1 ∷ address) (1 ∷ 0 ∷ 0 ∷ 0 ∷ 0 ∷ 0 ∷ [])))

-- ## Frames

parts_alike : (a b c e u v w p q r s m t x y k l n o z : List ℕ) → u ≡ t → v ≡ x → w ≡ y → p ≡ k → q ≡ l → r ≡ n → s ≡ o → m ≡ z
    → a ++ b ++ c ++ ((u ++ (v ++ (w ++ (p ++ (q ++ (r ++ (s ++ m))))))) ++ e) ≡ (a ++ b ++ c ++ t ++ x) ++ y ++ k ++ l ++ n ++ o ++ z ++ e
parts_alike a b c e u v w p q r s m t x y k l n o z h1 h2 h3 h4 h5 h6 h7 h8 = rw (h1, h2, h3, h4, h5, h6, h7, h8) (simp append_assoc)

few_parts_alike : (a b c e u v w t x : List ℕ) → u ≡ t → v ≡ x → a ++ b ++ c ++ ((u ++ (v ++ (w ++ []))) ++ e) ≡ (a ++ b ++ c ++ t ++ x) ++ w ++ e
few_parts_alike a b c e u v w t x h1 h2 = rw (h1, h2) (simp append_assoc)

module _ (c : Configuration) (name : List ℕ) (h : HasLengths c name) where
  chassis : spelling (unit 1 (4 ∷ c.mac)) ≡ tlv_octets 0x02 (0x04 ∷ c.mac)
  chassis = one_tlv 1 0x02 (4 ∷ c.mac) (omega arith) refl (omega (arith, h.mac))

  port : spelling (unit 2 (5 ∷ name)) ≡ tlv_octets 0x04 (0x05 ∷ name)
  port = one_tlv 2 0x04 (5 ∷ name) (omega arith) refl (omega (arith, h.short))

  pub ordinary : frame_of c name Ordinary ≡ ordinary_octets c name
  unfolding frame_of
  ordinary =
      parts_alike nearest_bridge c.mac lldp_ethertype (spelling end_of_lldpdu) _ _ _ _ _ _ _ _ _ _ _ _ _ _ _ _ chassis port (ttl_spelled (sent_ttl c) (omega arith))
      (one_tlv 4 0x08 name (omega arith) refl (omega (arith, h.short)))
      (one_tlv 5 0x0a c.hostname (omega arith) refl h.hostname)
      (one_tlv 6 0x0c c.description (omega arith) refl h.description)
      (role_spelled c.role)
      (management_spelled c.management h.management)

  pub shutdown : frame_of c name Shutdown ≡ shutdown_octets c name
  unfolding frame_of
  shutdown = few_parts_alike nearest_bridge c.mac lldp_ethertype (spelling end_of_lldpdu) _ _ (0x06 ∷ 0x02 ∷ 0x00 ∷ 0x00 ∷ []) _ _ chassis port

pub ruleset frames_have_these_octets = (ordinary, shutdown)
