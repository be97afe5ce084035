-- Escaped texts and hexadecimal digits can be read back.
use Rattle.std.proofs.Common.{◌≡◌, ℕ, ◌+◌, ◌*◌, ◌/◌, ◌%◌, ◌<◌, ◌==◌, ◌&&◌, Bool, List, [], ◌∷◌, ◌++◌, refl, sym, ap, ◌∙◌, arith}
use Rattle.std.specs.Prelude.{nat_le, if◌then◌else◌, codes, slice_index, unwrap_or}
use Rattle.std.proofs.lemmas.Bool.{eqb-true}
use Rattle.hex.specs.Hex.{encode_with, encode_lower, lower_digits, hex_digit_value}
use Rattle.hex.proofs.HexLemmas.{IsDigits-lower_digits}
use Rattle.lldp_pdu.specs.Tlv.{AreOctets}
use Rattle.lldp_text.specs.Text.{escaped}
use Rattle.std.proofs.lemmas.Grind.{common_steps}

-- ## Two hexadecimal digits

abbrev pub high : ℕ → ℕ
high c = slice_index lower_digits (c / 16)

abbrev pub low : ℕ → ℕ
low c = slice_index lower_digits (c % 16)

-- the value of a hexadecimal digit; 0 for any other octet
pub value : ℕ → ℕ
value digit = unwrap_or (hex_digit_value digit) 0

value_is : (d : ℕ) → d < 16 → value (slice_index lower_digits d) ≡ d
unfolding value
value_is d lt = ap (λ o. unwrap_or o 0) (IsDigits-lower_digits d lt)

-- the octet that is written as these two digits
pub octet : ℕ → ℕ → ℕ
octet h l = value h * 16 + value l

pub octet_is : (c : ℕ) → c < 256 → octet (high c) (low c) ≡ c
unfolding octet
octet_is c lt = grind (arith, common_steps, value_is)

-- decodes pairs of hexadecimal digits
pub unhex : List ℕ → List ℕ
unhex [] = []
unhex (h ∷ []) = []
unhex (h ∷ l ∷ cs) = octet h l ∷ unhex cs

pub hex_back : (octets : List ℕ) → AreOctets octets → unhex (encode_lower octets) ≡ octets
unfolding unhex encode_with
hex_back [] h = refl
hex_back (c ∷ cs) h = ap (λ x. x ∷ unhex (encode_lower cs)) (octet_is c h.0) ∙ ap (λ x. c ∷ x) (hex_back cs h.1)

-- ## Escaped text

-- where a reader is: at a new octet, after a backslash, or before the first or second digit
pub data Place : Type 0 where
  plain : Place
  slash : Place
  first : Place
  second : ℕ → Place

pub unescaped : Place → List ℕ → List ℕ
unescaped p [] = []
unescaped plain (c ∷ cs) = if c == 92 then unescaped slash cs else c ∷ unescaped plain cs
unescaped slash (c ∷ cs) = if c == 92 then 92 ∷ unescaped plain cs else unescaped first cs
unescaped first (c ∷ cs) = unescaped (second c) cs
unescaped (second h) (c ∷ cs) = octet h c ∷ unescaped plain cs

one_back : (c : ℕ) (cs : List ℕ) (is_slash is_plain : Bool) → c < 256 → (c == 92) ≡ is_slash
    → unescaped plain ((if is_slash then codes "\\\\" else if is_plain then c ∷ [] else codes "\\x" ++ encode_lower (c ∷ [])) ++ cs) ≡ c ∷ unescaped plain cs
unfolding unescaped encode_with
one_back c cs is_slash is_plain lt e = grind (arith, common_steps, eqb-true, octet_is)

none_back : unescaped plain [] ≡ []
unfolding unescaped
none_back = refl

pub text_back : (text : List ℕ) → AreOctets text → unescaped plain (escaped text) ≡ text
text_back [] h = none_back
text_back (c ∷ cs) h = one_back c (escaped cs) (c == 92) (nat_le 32 c && nat_le c 126) h.0 refl ∙ ap (λ x. c ∷ x) (text_back cs h.1)

pub escaped_apart : (one other : List ℕ) → AreOctets one → AreOctets other → escaped one ≡ escaped other → one ≡ other
escaped_apart one other h k e = sym (text_back one h) ∙ ap (unescaped plain) e ∙ text_back other k
