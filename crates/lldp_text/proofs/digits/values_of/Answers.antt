use Rattle.std.proofs.Common.{◌≡◌, ℕ, map, replicate, refl, sym}
use Rattle.std.proofs.lemmas.List.{map-id}
use Rattle.std.proofs.lemmas.Simd.{zip2_of_maps, splat_is_map}
use Rattle.lldp_text.proofs.Lanes.{chosen, values_are}
use Rattle.lldp_text.proofs.digits.values_of.Goals as goal

pub returns : goal.returns
returns c =
    let v = c.args.digits in
    let long = c.fits-digits.0 in
    let by : (n : ℕ) → replicate 32 n ≡ map (λ _. n) v = λ n. splat_is_map v 32 n long in
    let digits = sym (map-id v) in
    let less = zip2_of_maps _ _ _ v digits (by _) in
    let moved = zip2_of_maps _ _ _ v (chosen _ _ _ _ _ v less (by _) (by _) less) (by _) in
    let numeral = zip2_of_maps _ _ _ v moved (by _) in
    let from_a = zip2_of_maps _ _ _ v (zip2_of_maps _ _ _ v digits (by _)) (by _) in
    let letter = zip2_of_maps _ _ _ v (chosen _ _ _ _ _ v from_a (by _) from_a (by _)) (by _) in
    let values = values_are _ v (chosen _ _ _ _ _ v numeral letter numeral letter) long c.fits-digits.1 refl in
    record { len = values.0; values = values.1 }
