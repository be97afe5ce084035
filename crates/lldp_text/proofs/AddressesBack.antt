-- Addresses can be read back from show lines.
use Rattle.std.proofs.Common.{◌≡◌, ℕ, zero, suc, ◌*◌, ◌<◌, ◌≤◌, ◌==◌, ◌||◌, Bool, true, false, List, [], ◌∷◌, ◌++◌, length, refl, sym, ap, ◌∙◌, arith, append_assoc}
use Rattle.std.specs.Prelude.{if◌then◌else◌, decimal}
use Rattle.std.specs.List.{list_any}
use Rattle.std.specs.Fmt.{digits}
use Rattle.std.specs.Str.Parse.{digits_value}
use Rattle.std.proofs.lemmas.Bool.{eqb-true, agree_below, agree_below_at, or_from, or_right, or_parts}
use Rattle.std.proofs.lemmas.List.{append-nil}
use Rattle.std.proofs.lemmas.List.Folds.{list_any-append}
use Rattle.hex.specs.Hex.{encode_with}
use Rattle.lldp_pdu.specs.Tlv.{AreOctets}
use Rattle.lldp_text.specs.Addresses.{mac_text, ipv4_text, ipv6_text}
use Rattle.lldp_text.proofs.ReadBack.{octet, octet_is, high, low}
use Rattle.std.proofs.lemmas.Grind.{common_steps}

-- ## MAC addresses

-- decodes pairs of hexadecimal digits, with one octet skipped between two pairs
pub pairs_read : List ℕ → List ℕ
pairs_read [] = []
pairs_read (h ∷ []) = []
pairs_read (h ∷ l ∷ []) = octet h l ∷ []
pairs_read (h ∷ l ∷ colon ∷ cs) = octet h l ∷ pairs_read cs

pub mac_back : (octets : List ℕ) → AreOctets octets → pairs_read (mac_text octets) ≡ octets
unfolding pairs_read encode_with
mac_back [] h = refl
mac_back (c ∷ []) h = ap (λ x. x ∷ []) (octet_is c h.0)
mac_back (c ∷ d ∷ cs) h = ap (λ x. x ∷ pairs_read (mac_text (d ∷ cs))) (octet_is c h.0) ∙ ap (λ x. c ∷ x) (mac_back (d ∷ cs) h.1)

-- ## IPv6 addresses

pub fours_read : List ℕ → List ℕ
fours_read (a ∷ b ∷ c ∷ d ∷ []) = octet a b ∷ octet c d ∷ []
fours_read (a ∷ b ∷ c ∷ d ∷ colon ∷ cs) = octet a b ∷ octet c d ∷ fours_read cs
fours_read other = []

two_back : (a b : ℕ) (cs : List ℕ) → a < 256 → b < 256 → octet (high a) (low a) ∷ octet (high b) (low b) ∷ cs ≡ a ∷ b ∷ cs
two_back a b cs la lb = ap (λ x. x ∷ octet (high b) (low b) ∷ cs) (octet_is a la) ∙ ap (λ x. a ∷ x ∷ cs) (octet_is b lb)

pub ipv6_back : (n : ℕ) (octets : List ℕ) → length octets ≡ 2 * n → AreOctets octets → fours_read (ipv6_text octets) ≡ octets
unfolding fours_read encode_with
ipv6_back n [] e h = refl
ipv6_back n (a ∷ []) e h = absurd (omega arith)
ipv6_back n (a ∷ b ∷ []) e h = two_back a b [] h.0 h.1.0
ipv6_back n (a ∷ b ∷ c ∷ []) e h = absurd (omega arith)
ipv6_back zero (a ∷ b ∷ c ∷ d ∷ cs) e h = absurd (omega arith)
ipv6_back (suc n) (a ∷ b ∷ c ∷ d ∷ cs) e h =
    two_back a b (fours_read (ipv6_text (c ∷ d ∷ cs))) h.0 h.1.0
    ∙ ap (λ x. a ∷ b ∷ x) (ipv6_back n (c ∷ d ∷ cs) (omega arith) h.1.1)

-- ## IPv4 addresses

-- reads the decimal numbers between dots; the first argument holds the digits of the current number
pub numbers_read : List ℕ → List ℕ → List ℕ
numbers_read before [] = digits_value 10 before ∷ []
numbers_read before (c ∷ cs) = if c == 46 then digits_value 10 before ∷ numbers_read [] cs else numbers_read (before ++ c ∷ []) cs

-- each of the numbers 0 to 255, written in decimal, is read back, and has no dot or colon
abbrev reads : ℕ → Bool
reads n = digits_value 10 (decimal n) == n

abbrev is_mark : ℕ → Bool
is_mark c = (c == 46) || (c == 58)

abbrev has_mark : ℕ → Bool
has_mark n = list_any is_mark (decimal n)

all_read : agree_below reads (λ _. true) 256 ≡ true
unfolding digits
all_read = refl

none_has_mark : agree_below has_mark (λ _. false) 256 ≡ true
unfolding digits
none_has_mark = refl

number_back : (n : ℕ) → n < 256 → digits_value 10 (decimal n) ≡ n
number_back n lt = eqb-true _ _ (agree_below_at reads (λ _. true) 256 n all_read lt)

unmarked : (n : ℕ) → n < 256 → list_any is_mark (decimal n) ≡ false
unmarked n lt = agree_below_at has_mark (λ _. false) 256 n none_has_mark lt

digit_read : (before cs : List ℕ) (c : ℕ) (b : Bool) → (c == 46) ≡ b → (b || (c == 58)) ≡ false → numbers_read before (c ∷ cs) ≡ numbers_read (before ++ c ∷ []) cs
unfolding numbers_read
digit_read before cs c b e h = grind (arith, common_steps)

digits_read : (before ds cs : List ℕ) → list_any is_mark ds ≡ false → numbers_read before (ds ++ cs) ≡ numbers_read (before ++ ds) cs
digits_read before [] cs h = ap (λ x. numbers_read x cs) (sym (append-nil before))
digits_read before (d ∷ ds) cs h =
    let parts = or_parts (is_mark d) (list_any is_mark ds) h in
    digit_read before (ds ++ cs) d (d == 46) refl parts.0 ∙ digits_read (before ++ d ∷ []) ds cs parts.1
    ∙ ap (λ x. numbers_read x cs) (append_assoc before (d ∷ []) ds)

last_read : (n : ℕ) → n < 256 → numbers_read [] (decimal n) ≡ n ∷ []
unfolding numbers_read
last_read n lt =
    ap (numbers_read []) (sym (append-nil (decimal n))) ∙ digits_read [] (decimal n) [] (unmarked n lt)
    ∙ ap (λ x. x ∷ []) (number_back n lt)

one_read : (n : ℕ) (cs : List ℕ) → n < 256 → numbers_read [] (decimal n ++ (46 ∷ cs)) ≡ n ∷ numbers_read [] cs
unfolding numbers_read
one_read n cs lt = digits_read [] (decimal n) (46 ∷ cs) (unmarked n lt) ∙ ap (λ x. x ∷ numbers_read [] cs) (number_back n lt)

pub ipv4_back : (octets : List ℕ) → 0 < length octets → AreOctets octets → numbers_read [] (ipv4_text octets) ≡ octets
ipv4_back [] some h = absurd (omega arith)
ipv4_back (c ∷ []) some h = last_read c h.0
ipv4_back (c ∷ d ∷ cs) some h = one_read c (ipv4_text (d ∷ cs)) h.0 ∙ ap (λ x. c ∷ x) (ipv4_back (d ∷ cs) (omega arith) h.1)

-- ## IPv4 addresses have no colon, IPv6 addresses have colons

abbrev pub is_colon : ℕ → Bool
is_colon c = c == 58

no_colon : (ds : List ℕ) → list_any is_mark ds ≡ false → list_any is_colon ds ≡ false
no_colon [] h = refl
no_colon (d ∷ ds) h =
    let parts = or_parts (is_mark d) (list_any is_mark ds) h in
    or_from (is_colon d) (list_any is_colon ds) (let at = or_parts (d == 46) (d == 58) parts.0 in at.1) (no_colon ds parts.1)

pub ipv4_without : (octets : List ℕ) → AreOctets octets → list_any is_colon (ipv4_text octets) ≡ false
ipv4_without [] h = refl
ipv4_without (c ∷ []) h = no_colon (decimal c) (unmarked c h.0)
ipv4_without (c ∷ d ∷ cs) h =
    list_any-append is_colon (decimal c) (46 ∷ ipv4_text (d ∷ cs))
    ∙ or_from _ _ (no_colon (decimal c) (unmarked c h.0)) (ipv4_without (d ∷ cs) h.1)

pub ipv6_with : (octets : List ℕ) → 4 ≤ length octets → list_any is_colon (ipv6_text octets) ≡ true
unfolding encode_with
ipv6_with octets long = grind (arith, common_steps, or_right, high, low)
