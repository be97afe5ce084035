use Rattle.std.proofs.Common.{◌≡◌, ℕ, true, List, length, ap, sym, ◌∙◌}
use Rattle.std.specs.Prelude.{◌&&◌, nat_le}
use Rattle.std.proofs.lemmas.Bool.{and_parts, leb-true}
use Rattle.lldp_pdu.specs.Msap.{IsIdentifier}
use Rattle.lldp_pdu.specs.WellFormed.{is_well_formed}
use Rattle.lldpa_c.specs.Values.{may_write}
use Rattle.lldpa_c.proofs.values.begin_value.Goals as goal

-- a body of 2 to 256 octets is the body of an identifier
fits : (body : List ℕ) → (nat_le (length body) 511 && (nat_le 2 (length body) && nat_le (length body) 256)) ≡ true → IsIdentifier body
fits body h =
    let p = and_parts _ _ (and_parts _ _ h).1 in
    record { least = leb-true _ _ p.0; greatest = leb-true _ _ p.1 }

pub begin_chassis-requires-clause-fits : goal.begin_chassis-requires-clause-fits
unfolding is_well_formed
begin_chassis-requires-clause-fits c = fits c.args.tlv.body.now (ap (λ (kind : ℕ). may_write kind c.args.tlv.body.now) (sym c.in-1.is) ∙ c.requires.may)

pub begin_port-requires-clause-fits : goal.begin_port-requires-clause-fits
unfolding is_well_formed
begin_port-requires-clause-fits c = fits c.args.tlv.body.now (ap (λ (kind : ℕ). may_write kind c.args.tlv.body.now) (sym c.in-2.is) ∙ c.requires.may)
