use Rattle.std.proofs.Common.{◌≡◌, ℕ, List, length, drop, refl, sym, ap, subst, ◌∙◌, arith, ◌-◌, ◌∷◌}
use Rattle.lldp_pdu.specs.Cut.{cut}
use Rattle.lldp_pdu.specs.Code.Seen.{kept_seen}
use Rattle.lldp_pdu.specs.View.{tlv_view}
use Rattle.lldpa_c.specs.Place.{EndsWith}
use Rattle.lldpa_c.specs.Walk.{GivesKept}
use Rattle.lldpa_c.proofs.Walking.{gives_kept, kept_first}
use Rattle.lldpa_c.proofs.kept.first_kept.Goals as goal

whole : (octets same : List ℕ) → same ≡ octets → EndsWith octets same
whole octets same e = record { within = omega (arith, ap length e); is = e ∙ ap (λ (n : ℕ). drop n octets) none }
  where
    none : 0 ≡ length octets - length same
    none = omega (arith, ap length e)

pub loop-tlv-init : goal.loop-tlv-init
loop-tlv-init c = (refl, whole _ _ c.new-tlvs.ensures)

pub returns-then-keeps-clause-some : goal.returns-then-keeps-clause-some
returns-then-keeps-clause-some c =
    let s = c.in-Some.ensures.steps in
    let k = c.if-keeps.ensures in
    let step = kept_first _ c.keeps.new.self.types _ _ (tlv_view c.in-Some.tlv) s.0 k.kept k.met in
    let start = ap (λ (os : List ℕ). kept_seen c.args.met.types (cut os).tlvs) (sym c.new-tlvs.ensures) in
    let left = ap (λ (os : List ℕ). tlv_view c.in-Some.tlv ∷ kept_seen c.keeps.new.self.types (cut os).tlvs) (sym c.rest.ensures) in
    start ∙ sym c.loop-tlv.invariant.0 ∙ step ∙ left

pub returns-then-keeps-clause-place : goal.returns-then-keeps-clause-place
returns-then-keeps-clause-place c =
    let s = c.in-Some.ensures.steps in
    let at = gives_kept c.args.octets.now _ _ (tlv_view c.in-Some.tlv) c.loop-tlv.invariant.1 s.0 s.1 in
    subst (GivesKept c.args.octets.now c.in-Some.tlv.body.now) (sym c.rest.ensures) at
