use Rattle.std.proofs.Common.{◌≡◌, ℕ, ◌+◌, ◌<◌, Bool, true, false, length, refl, ap, arith}
use Rattle.std.specs.Prelude.{◌&&◌, ◌==◌, not, List, Some, None, nat_le, if◌then◌else◌}
use Rattle.std.proofs.lemmas.Bool.Decides.{nat_tests}
use Rattle.lldp_pdu.specs.Range.{is_between}
use Rattle.lldp_pdu.specs.WellFormed.{is_well_formed}
use Rattle.lldpa_c.specs.Values.{tlv_value, value_of, may_write}
use Rattle.lldpa_c.proofs.laws.some_tlvs_have_no_text.Goals as goal

no_text : (kind : ℕ) (body : List ℕ) → may_write kind body ≡ false → tlv_value kind body ≡ None
no_text kind body e = ap (λ (b : Bool). if b then Some (value_of kind body) else None) e

too_great : (n : ℕ) → is_between 1 (128 + n) 127 ≡ false
too_great n = grind (arith, nat_tests)

too_long : (n : ℕ) → 511 < n → nat_le n 511 ≡ false
too_long n h = grind (arith, nat_tests)

first_fails : (a b c d : Bool) → a ≡ false → (a && b && c && d) ≡ false
first_fails a b c d e = rw e refl

third_fails : (a b c d : Bool) → c ≡ false → (a && b && c && d) ≡ false
third_fails true true c d e = rw e refl
third_fails true false c d e = refl
third_fails false b c d e = refl

refused_kind : (n : ℕ) (body : List ℕ) → may_write (128 + n) body ≡ false
refused_kind n body =
    first_fails (is_between 1 (128 + n) 127) (not (128 + n == 3)) (nat_le (length body) 511) (is_well_formed (record { kind = 128 + n; body = body })) (too_great n)

refused_length : (kind : ℕ) (body : List ℕ) → 511 < length body → may_write kind body ≡ false
refused_length kind body h =
    third_fails (is_between 1 kind 127) (not (kind == 3)) (nat_le (length body) 511) (is_well_formed (record { kind = kind; body = body })) (too_long (length body) h)

pub returns : goal.returns
returns c = record {
  end = λ body. refl;
  ttl = λ body. refl;
  greater = λ n body. no_text (128 + n) body (refused_kind n body);
  longer = λ kind body h. no_text kind body (refused_length kind body h);
}
