-- LLDPDUs that begin with the three mandatory TLVs.
use Rattle.std.proofs.Common.{◌≡◌, ℕ, ◌+◌, ◌≤◌, cond, ◌&&◌, List, ◌∷◌, length, drop, Some, None, sym, ap, ◌∙◌, arith}
use Rattle.std.specs.Prelude.{nat_lt}
use Rattle.std.specs.List.{list_any}
use Rattle.std.proofs.lemmas.Bool.{le-leb, lt-leb, le-ltb}
use Rattle.std.proofs.lemmas.List.{drop-drop}
use Rattle.lldp_pdu.specs.declared.fault.PduFault.TheVariants.{Repeated}
use Rattle.lldp_pdu.specs.Tlv.{TlvUnit}
use Rattle.lldp_pdu.specs.Cut.{Cut, cut}
use Rattle.lldp_pdu.specs.Check.{first_fault}
use Rattle.lldp_pdu.specs.Lldpdu.{seconds, tlv_at, ttl_of, later_tlvs}
use Rattle.lldp_pdu.specs.Fault.{checks, fault_of, is_mandatory}
use Rattle.lldp_pdu.specs.Code.Survey.{OpensWith}
use Rattle.std.proofs.lemmas.Grind.{common_steps}

-- the cut of octets that consist of the encoded TLV u and then t
abbrev pub with_front : TlvUnit → List ℕ → Cut
with_front u t = record { tlvs = u ∷ (cut t).tlvs; rest = (cut t).rest }

abbrev after_front : TlvUnit → Cut → Cut
after_front u c = record { tlvs = u ∷ c.tlvs; rest = c.rest }

opened : (octets a t1 t2 t3 : List ℕ) (u1 u2 u3 : TlvUnit) → a ≡ octets → cut a ≡ with_front u1 t1 → cut t1 ≡ with_front u2 t2 → cut t2 ≡ with_front u3 t3
    → cut octets ≡ record { tlvs = u1 ∷ u2 ∷ u3 ∷ (cut t3).tlvs; rest = (cut t3).rest }
opened octets a t1 t2 t3 u1 u2 u3 e p q r = ap cut (sym e) ∙ p ∙ ap (after_front u1) (q ∙ ap (after_front u2) r)

-- if the mandatory TLVs have the right types and lengths, only the last check can fail
pub sound_checks : (chassis port body : List ℕ) (us : List TlvUnit) (ttl : ℕ) (later : List TlvUnit) → 2 ≤ length chassis → length chassis ≤ 256 → 2 ≤ length port → length port ≤ 256 → 2 ≤ length body
    → first_fault (checks (record { kind = 1; body = chassis } ∷ record { kind = 2; body = port } ∷ record { kind = 3; body = body } ∷ us) ttl later) ≡ cond (nat_lt 0 ttl && list_any is_mandatory later) (Some Repeated) None
sound_checks chassis port body us ttl later h1 h2 h3 h4 h5 = grind (arith, common_steps, lt-leb, le-leb, le-ltb)

pub fault_from : (octets : List ℕ) (us : List TlvUnit) (ttl : ℕ) → (cut octets).tlvs ≡ us → ttl_of octets ≡ ttl → fault_of octets ≡ first_fault (checks us ttl (later_tlvs octets))
unfolding fault_of
fault_from octets us ttl e t = grind (arith, common_steps, ℕ)

pub ttl_from : (octets : List ℕ) (c : Cut) → cut octets ≡ c → ttl_of octets ≡ seconds (tlv_at c.tlvs 2).body
unfolding ttl_of
ttl_from octets c e = ap (λ (c : Cut). seconds (tlv_at c.tlvs 2).body) e

pub opens : (octets a t1 t2 t3 after : List ℕ) (u1 u2 u3 : TlvUnit) (ttl : ℕ) → a ≡ octets → after ≡ t3 → cut a ≡ with_front u1 t1 → cut t1 ≡ with_front u2 t2 → cut t2 ≡ with_front u3 t3
    → t1 ≡ drop (2 + length u1.body) a → t2 ≡ drop (2 + length u2.body) t1 → t3 ≡ drop (2 + length u3.body) t2 → u1.kind ≡ 1 → u2.kind ≡ 2 → u3.kind ≡ 3 → 2 ≤ length u1.body → length u1.body ≤ 256 → 2 ≤ length u2.body → length u2.body ≤ 256 → 2 ≤ length u3.body → seconds u3.body ≡ ttl
    → OpensWith octets (record { chassis = u1.body; port = u2.body }) ttl after
opens octets a t1 t2 t3 after u1 u2 u3 ttl e g p q r d1 d2 d3 k1 k2 k3 h1 h2 h3 h4 h5 s =
    let all = opened octets a t1 t2 t3 u1 u2 u3 e p q r in
    let named : cut octets ≡ record { tlvs = record { kind = 1; body = u1.body } ∷ record { kind = 2; body = u2.body } ∷ record { kind = 3; body = u3.body } ∷ (cut after).tlvs; rest = (cut after).rest } =
    all ∙ ap (λ (x : ℕ × ℕ × ℕ × List ℕ). record { tlvs = record { kind = x.0; body = u1.body } ∷ record { kind = x.1; body = u2.body } ∷ record { kind = x.2; body = u3.body } ∷ (cut x.3).tlvs; rest = (cut x.3).rest }) (four k1 k2 k3 (sym g)) in
    let same_ttl : ttl_of octets ≡ ttl = ttl_from octets _ named ∙ s in
    record {
      body = u3.body;
      seconds_are = s;
      parts = named;
      behind = (
        2 + length u1.body + (2 + length u2.body) + (2 + length u3.body),
        g ∙ d3 ∙ ap (drop (2 + length u3.body)) (d2 ∙ ap (drop (2 + length u2.body)) (d1 ∙ ap (drop (2 + length u1.body)) e) ∙ drop-drop _ _ octets) ∙ drop-drop _ _ octets,
      );
      fault = fault_from octets _ ttl (ap (λ (c : Cut). c.tlvs) named) same_ttl ∙ (sound_checks u1.body u2.body u3.body (cut after).tlvs ttl (later_tlvs octets) h1 h2 h3 h4 h5);
    }
  where
    four : {a b c a' b' c' : ℕ} {t t' : List ℕ} → a ≡ a' → b ≡ b' → c ≡ c' → t ≡ t' → ◌≡◌ {A = ℕ × ℕ × ℕ × List ℕ} (a, b, c, t) (a', b', c', t')
    four p q r s = cc
