-- MSAP identifiers that differ in one octet have different tags. Mixing in an octet loses no
-- information: the factor is odd, so it has an inverse modulo 2 ^ 8.
use Rattle.std.proofs.Common.{◌≡◌, ℕ, ◌+◌, ◌*◌, ◌%◌, ◌^◌, ◌<◌, List, [], ◌∷◌, ◌++◌, refl, ap, ◌∙◌, sym, arith, lit<, mod-lt}
use Rattle.lldp_pdu.specs.Msap.{MsapId}
use Rattle.lldp_table.specs.Code.Stored.{mixed, tag_of}

abbrev step : ℕ → ℕ → ℕ
step tag octet = (tag * 31 % 2 ^ 8 + octet) % 2 ^ 8

step_fits : (n : ℕ) → n % 2 ^ 8 < 2 ^ 8
step_fits n = mod-lt n (lit< tt)

same_step : (a b octet : ℕ) → a < 2 ^ 8 → b < 2 ^ 8 → step a octet ≡ step b octet → a ≡ b
same_step a b octet k l e = omega arith

same_before : (a b : ℕ) (octets : List ℕ) → a < 2 ^ 8 → b < 2 ^ 8 → mixed a octets ≡ mixed b octets → a ≡ b
same_before a b [] k l e = e
same_before a b (octet ∷ octets) k l e = same_step a b octet k l (same_before (step a octet) (step b octet) octets (step_fits _) (step_fits _) e)

mixed-append : (tag : ℕ) (front back : List ℕ) → mixed tag (front ++ back) ≡ mixed (mixed tag front) back
mixed-append tag [] back = refl
mixed-append tag (octet ∷ front) back = mixed-append (step tag octet) front back

-- the tag is a mix of all octets of the MSAP identifier, in order
tag-mixed : (name : MsapId) (front back : List ℕ) (octet : ℕ) → name.chassis ++ name.port ≡ front ++ octet ∷ back → tag_of name ≡ mixed (mixed 0 front) (octet ∷ back)
tag-mixed name front back octet e = sym (mixed-append 0 name.chassis name.port) ∙ ap (mixed 0) e ∙ mixed-append 0 front (octet ∷ back)

same_last : (tag a b : ℕ) → a < 2 ^ 8 → b < 2 ^ 8 → step tag a ≡ step tag b → a ≡ b
same_last tag a b k l e = omega arith

pub same_octet : (one other : MsapId) (front back : List ℕ) (a b : ℕ) → one.chassis ++ one.port ≡ front ++ a ∷ back → other.chassis ++ other.port ≡ front ++ b ∷ back → a < 2 ^ 8 → b < 2 ^ 8 → tag_of one ≡ tag_of other → a ≡ b
same_octet one other front back a b p q k l e =
    let tag = mixed 0 front in
    let mixes = sym (tag-mixed one front back a p) ∙ e ∙ tag-mixed other front back b q in
    same_last tag a b k l (same_before (step tag a) (step tag b) back (step_fits _) (step_fits _) mixes)
