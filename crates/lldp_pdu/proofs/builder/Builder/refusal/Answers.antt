use Rattle.std.proofs.Common.{◌≡◌, ℕ, Bool, true, false, length, List, ◌&&◌, refl, sym, ◌∙◌, subst, arith}
use Rattle.std.proofs.lemmas.Bool.{lt-ltb, le-ltb}
use Rattle.lldp_pdu.specs.Tlv.{TlvUnit}
use Rattle.lldp_pdu.specs.Kept.{is_single}
use Rattle.lldp_pdu.specs.Code.Seen.{Flags, has_flag}
use Rattle.lldp_pdu.specs.View.{tlv_view}
use Rattle.lldp_pdu.specs.Draft.{Draft, was_put}
use Rattle.lldp_pdu.specs.Code.BuilderView.{draft_of, Builds}
use Rattle.lldp_pdu.proofs.Keeping.{flag_is}
use Rattle.lldp_pdu.proofs.Drafts.{put_fault_is, long}
use Rattle.lldp_pdu.proofs.builder.Builder.refusal.Goals as goal
use Rattle.std.proofs.lemmas.Grind.{common_steps}

-- `has_flag` is true for a type exactly if the type is 4 to 7 and was put
flagged : (d : Draft) (u : TlvUnit) (octets : List ℕ) (met : List Bool) (lives r : Bool) → draft_of octets ≡ d → Builds octets met lives → r ≡ has_flag met u.kind → (is_single u.kind && was_put u.kind d.tlvs) ≡ r
flagged d u octets met lives r v b h = sym (h ∙ flag_is met (λ kind. was_put kind d.tlvs) u.kind (subst (λ (d : Draft). Flags met (λ kind. was_put kind d.tlvs)) v b.flags))

pub returns-then-not-is_optional_type : goal.returns-then-not-is_optional_type
returns-then-not-is_optional_type c = grind (arith, common_steps, put_fault_is)

pub returns-then-is_shutdown : goal.returns-then-is_shutdown
returns-then-is_shutdown c = grind (arith, common_steps, put_fault_is)

pub returns-then-has : goal.returns-then-has
returns-then-has c =
    sym (put_fault_is c.args.self.now (tlv_view c.args.tlv.now) true false true _ _ _ (sym c.if-not-is_optional_type.ensures)
    (sym c.if-is_shutdown.ensures)
    (flagged c.args.self.now (tlv_view c.args.tlv.now) c.self.inside.octets.items c.self.inside.met.types c.self.inside.lives true c.self.view_is c.self.invariant c.if-has.ensures) refl refl refl)

pub returns-then-tlv-gt-MOST_BODY : goal.returns-then-tlv-gt-MOST_BODY
returns-then-tlv-gt-MOST_BODY c =
    sym (put_fault_is c.args.self.now (tlv_view c.args.tlv.now) true false false true _ _ (sym c.if-not-is_optional_type.ensures)
    (sym c.if-is_shutdown.ensures)
    (flagged c.args.self.now (tlv_view c.args.tlv.now) c.self.inside.octets.items c.self.inside.met.types c.self.inside.lives false c.self.view_is c.self.invariant c.if-has.ensures)
    (lt-ltb 511 (length c.args.tlv.now.body.now) (omega arith)) refl refl)

pub returns-then-not-body_is_well_formed : goal.returns-then-not-body_is_well_formed
returns-then-not-body_is_well_formed c =
    sym (put_fault_is c.args.self.now (tlv_view c.args.tlv.now) true false false false false _ (sym c.if-not-is_optional_type.ensures)
    (sym c.if-is_shutdown.ensures)
    (flagged c.args.self.now (tlv_view c.args.tlv.now) c.self.inside.octets.items c.self.inside.met.types c.self.inside.lives false c.self.view_is c.self.invariant c.if-has.ensures)
    (le-ltb 511 (length c.args.tlv.now.body.now) (omega arith)) (sym c.if-not-body_is_well_formed.ensures) refl)

pub returns-then-len-tlv-gt-MOST_OCTETS : goal.returns-then-len-tlv-gt-MOST_OCTETS
returns-then-len-tlv-gt-MOST_OCTETS c =
    sym (put_fault_is c.args.self.now (tlv_view c.args.tlv.now) true false false false true true (sym c.if-not-is_optional_type.ensures)
    (sym c.if-is_shutdown.ensures)
    (flagged c.args.self.now (tlv_view c.args.tlv.now) c.self.inside.octets.items c.self.inside.met.types c.self.inside.lives false c.self.view_is c.self.invariant c.if-has.ensures)
    (le-ltb 511 (length c.args.tlv.now.body.now) (omega arith)) (sym c.if-not-body_is_well_formed.ensures)
    (let n = long c.args.self.now (tlv_view c.args.tlv.now) c.self.inside.octets.items c.self.inside.met.types c.self.inside.lives c.self.view_is c.self.invariant in lt-ltb 1500 _ (omega (arith, n))))

pub returns : goal.returns
returns c =
    sym (put_fault_is c.args.self.now (tlv_view c.args.tlv.now) true false false false true false (sym c.if-not-is_optional_type.ensures)
    (sym c.if-is_shutdown.ensures)
    (flagged c.args.self.now (tlv_view c.args.tlv.now) c.self.inside.octets.items c.self.inside.met.types c.self.inside.lives false c.self.view_is c.self.invariant c.if-has.ensures)
    (le-ltb 511 (length c.args.tlv.now.body.now) (omega arith)) (sym c.if-not-body_is_well_formed.ensures)
    (let n = long c.args.self.now (tlv_view c.args.tlv.now) c.self.inside.octets.items c.self.inside.met.types c.self.inside.lives c.self.view_is c.self.invariant in le-ltb 1500 _ (omega (arith, n))))
