use Rattle.std.proofs.Common.{rules, ◌≡◌, refl, slice_index_or, arith}
use Rattle.lldp_program.proofs.Words.Addresses.{decoded, not_decoded}
use Rattle.lldp_program.proofs.addresses.read_mac.Goals as goal

pub returns-in_err-ok : goal.returns-in_err-ok
returns-in_err-ok c = rw c.from_residual.ensures (λ mac is.
    not_decoded _ c.decode_to_slice.result _ mac c.decode_to_slice.ensures.value (search rules) (rw (← c.as_bytes.ensures.value) at is.digits))

pub returns : goal.returns
returns c =
    let e2 : slice_index_or c.args.text.now 2 0 ≡ 58 = search rules in
    let e5 : slice_index_or c.args.text.now 5 0 ≡ 58 = search rules in
    let e8 : slice_index_or c.args.text.now 8 0 ≡ 58 = search rules in
    let e11 : slice_index_or c.args.text.now 11 0 ≡ 58 = search rules in
    let e14 : slice_index_or c.args.text.now 14 0 ≡ 58 = search rules in
    record {
      long = omega (arith, c.in-58.len_at_least, c.in-58.len_below, c.as_bytes.ensures.len);
      colons = rw (e2, e5, e8, e11, e14) refl;
      digits = rw (← c.as_bytes.ensures.value) (decoded _ c.decode_to_slice.result _ c.decode_to_slice.ensures.value (search rules));
    }
