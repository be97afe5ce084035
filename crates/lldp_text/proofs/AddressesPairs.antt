-- The pairs of octets in an IPv6 address, and how the text of an address grows by one more pair.
use Rattle.std.proofs.Common.{◌≡◌, ℕ, ◌+◌, ◌*◌, ◌≤◌, List, [], ◌∷◌, ◌++◌, length, take, drop, map, refl, ap, ◌∙◌, arith, suc, zero}
use Rattle.std.specs.List.{join_with_byte}
use Rattle.std.proofs.lemmas.List.{map-append, length-map}
use Rattle.hex.specs.Hex.{encode_lower}
use Rattle.lldp_text.specs.Text.{separator}
use Rattle.lldp_text.specs.Addresses.{pairs, ipv6_text}
use Rattle.lldp_text.proofs.TextJoined.{join_push}

-- the first i + 1 pairs are the first i pairs and the next one
pairs_more : (i : ℕ) (xs : List ℕ) → 2 * i + 2 ≤ length xs → pairs (take (2 * i + 2) xs) ≡ pairs (take (2 * i) xs) ++ take 2 (drop (2 * i) xs) ∷ []
pairs_more zero [] h = absurd (omega arith)
pairs_more zero (a ∷ []) h = absurd (omega arith)
pairs_more zero (a ∷ b ∷ xs) h = refl
pairs_more (suc i) [] h = absurd (omega arith)
pairs_more (suc i) (a ∷ []) h = absurd (omega arith)
pairs_more (suc i) (a ∷ b ∷ xs) h =
    let e : 2 * suc i ≡ suc (suc (2 * i)) = omega arith in
    let f : 2 * suc i + 2 ≡ suc (suc (2 * i + 2)) = omega arith in
    rw (f, e) (ap (λ l. (a ∷ b ∷ []) ∷ l) (pairs_more i xs (omega arith)))

pairs_length : (i : ℕ) (xs : List ℕ) → 2 * i ≤ length xs → length (pairs (take (2 * i) xs)) ≡ i
pairs_length zero xs h = refl
pairs_length (suc i) [] h = absurd (omega arith)
pairs_length (suc i) (a ∷ []) h = absurd (omega arith)
pairs_length (suc i) (a ∷ b ∷ xs) h =
    let e : 2 * suc i ≡ suc (suc (2 * i)) = omega arith in
    rw e (ap suc (pairs_length i xs (omega arith)))

pub ipv6_more : (i : ℕ) (xs : List ℕ) → 2 * i + 2 ≤ length xs → ipv6_text (take (2 * (i + 1)) xs) ≡ ipv6_text (take (2 * i) xs) ++ (separator 58 i ++ encode_lower (take 2 (drop (2 * i) xs)))
ipv6_more i xs h =
    let e : 2 * (i + 1) ≡ 2 * i + 2 = omega arith in
    let len : length (map encode_lower (pairs (take (2 * i) xs))) ≡ i = length-map (pairs (take (2 * i) xs)) encode_lower ∙ pairs_length i xs (omega arith) in
    ap (λ n. ipv6_text (take n xs)) e
    ∙ ap (λ l. join_with_byte 58 (map encode_lower l)) (pairs_more i xs h)
    ∙ ap (join_with_byte 58) (map-append encode_lower (pairs (take (2 * i) xs)) (take 2 (drop (2 * i) xs) ∷ []))
    ∙ join_push 58 (map encode_lower (pairs (take (2 * i) xs))) (encode_lower (take 2 (drop (2 * i) xs)))
    ∙ ap (λ n. ipv6_text (take (2 * i) xs) ++ (separator 58 n ++ encode_lower (take 2 (drop (2 * i) xs)))) len
