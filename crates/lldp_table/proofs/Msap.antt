-- `same_msap` is true exactly if two MSAP identifiers are equal.
use Rattle.std.proofs.Common.{◌≡◌, true, ap, refl, arith}
use Rattle.std.specs.Bool.{Decides}
use Rattle.std.specs.Cmp.{IsEquivalence}
use Rattle.std.proofs.lemmas.Bool.Decides.{same_from_decides}
use Rattle.std.proofs.lemmas.Slice.Eq.{bytes_eq-Decides}
use Rattle.lldp_pdu.specs.Msap.{MsapId}
use Rattle.lldp_table.specs.Msap.{same_msap}
use Rattle.std.proofs.lemmas.Grind.{common_steps}

-- identifiers with equal parts are equal
pub same_parts : (a b : MsapId) → a.chassis ≡ b.chassis → a.port ≡ b.port → a ≡ b
same_parts a b p q = grind (arith, common_steps)

pub same_msap-Decides : (a b : MsapId) → Decides (same_msap a b) (a ≡ b)
same_msap-Decides a b = grind (arith, common_steps, same_parts, bytes_eq-Decides)

pub same_msap-true : (a b : MsapId) → same_msap a b ≡ true → a ≡ b
same_msap-true a b = (same_msap-Decides a b).0

pub same_msap-refl : (a : MsapId) → same_msap a a ≡ true
same_msap-refl a = (same_msap-Decides a a).1 refl

pub same_msap-sym : (a b : MsapId) → same_msap a b ≡ same_msap b a
same_msap-sym a b = grind (arith, common_steps, same_from_decides, same_msap-Decides)

pub same_msap-laws : IsEquivalence same_msap
same_msap-laws = record {
  refl = same_msap-refl;
  symm = same_msap-sym;
  congr = λ x y z h. ap (λ n. same_msap n z) (same_msap-true x y h);
}
