use Rattle.std.proofs.Common.{◌≡◌, cond, ltb, ℕ, map, replicate, refl, sym}
use Rattle.std.proofs.lemmas.List.{map-id}
use Rattle.std.proofs.lemmas.Simd.{zip2_of_maps, splat_is_map}
use Rattle.lldp_text.proofs.Lanes.{chosen, digits_are}
use Rattle.lldp_text.proofs.digits.digits_of.Goals as goal

pub returns : goal.returns
returns c =
    let v = c.args.values in
    let long = c.fits-values.0 in
    let by : (n : ℕ) → replicate 16 n ≡ map (λ _. n) v = λ n. splat_is_map v 16 n long in
    digits_are _ v (zip2_of_maps _ _ _ v (zip2_of_maps _ _ _ v (sym (map-id v)) (by 48)) (chosen (λ a b. cond (ltb a b) 255 0) _ _ _ _ v (by 9) (sym (map-id v)) (by 39) (by 0))) long refl
