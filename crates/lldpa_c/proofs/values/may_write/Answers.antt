use Rattle.std.proofs.Common.{◌≡◌, Bool, false, length, ap, ◌∙◌, arith}
use Rattle.std.specs.Prelude.{◌&&◌, not}
use Rattle.std.proofs.Math.Bool.{and-false, and-true}
use Rattle.std.proofs.lemmas.Bool.{le-leb, ne_eqb}
use Rattle.lldp_pdu.specs.Tlv.{TlvUnit}
use Rattle.lldp_pdu.specs.Kept.{is_single}
use Rattle.lldp_pdu.specs.WellFormed.{is_well_formed}
use Rattle.lldp_pdu.specs.Code.Seen.{none_seen, has_flag, is_kept_seen}
use Rattle.lldp_pdu.proofs.Keeping.{flag_is, flags_none}
use Rattle.lldpa_c.proofs.values.may_write.Goals as goal

-- if no TLV was found before, a TLV is kept exactly if it is well formed
kept_first : (u : TlvUnit) → is_kept_seen none_seen u ≡ is_well_formed u
kept_first u =
    let none : has_flag none_seen u.kind ≡ false = flag_is none_seen (λ kind. false) u.kind flags_none ∙ and-false (is_single u.kind) in
    ap (λ (b : Bool). is_well_formed u && not b) none ∙ and-true (is_well_formed u)

pub returns : goal.returns
returns c =
    let kind = c.args.kind in
    rw (le-leb 1 kind (omega (arith, c.if-kind-from.false, c.from.ensures)), le-leb kind 127 (omega (arith, c.if-kind-from-2.false, c.from-else-kind-from.ensures)), ne_eqb kind 3 (λ e. c.if-kind-from-3.false (omega (arith, e, c.from-else-kind-from-2.ensures))), le-leb (length c.args.body.now) 511 (omega (arith, c.if-body-gt-MOST_BODY.false)))
    (c.keeps.ensures.kept ∙ kept_first _)
