-- How MAC and IPv4 addresses are read.
use Rattle.std.proofs.Common.{◌≡◌, ℕ, List, Result, Ok, Err, true, false, sym, ap, ◌∙◌, MatchResult}
use Rattle.std.specs.Prelude.{is_ok}
use Rattle.std.specs.Net.Grammar.{IsDotted, IsIpv4Text, Parses}
use Rattle.std.specs.declared.net.ipv4_addr.Ipv4Addr.{Ipv4Addr}

pub decoded : {E : Type 0} (r : Result (List ℕ) E) (answer : Result (Unit {0}) E) (out : List ℕ)
    → MatchResult r (λ octets. (answer ≡ Ok tt) × (out ≡ octets)) (λ fault. answer ≡ Err fault) → is_ok answer ≡ true → r ≡ Ok out
decoded (Ok octets) answer out h e = ap Ok (sym h.1)
decoded (Err fault) answer out h e = let bad : false ≡ true = sym (ap is_ok h) ∙ e in cc

pub not_decoded : {E : Type 0} (r : Result (List ℕ) E) (answer : Result (Unit {0}) E) (out octets : List ℕ)
    → MatchResult r (λ octets. (answer ≡ Ok tt) × (out ≡ octets)) (λ fault. answer ≡ Err fault) → is_ok answer ≡ false → r ≡ Ok octets → ⊥
not_decoded (Ok got) answer out octets h e same = let bad : true ≡ false = sym (ap is_ok h.0) ∙ e in cc
not_decoded (Err fault) answer out octets h e same = cc

-- if no address was read, the text is not four numbers with dots between them
pub not_address : {E : Type 0} (text octets : List ℕ) (answer : Result Ipv4Addr E) → Parses IsIpv4Text text answer → is_ok answer ≡ false → IsDotted text octets → ⊥
not_address text octets (Ok address) h e is = cc
not_address text octets (Err fault) h e is = h (record { octets = octets }) is
