-- How `rx PORT HEX` is read if it has no quotes and one space between words.
use Rattle.std.proofs.Common.{◌≡◌, ℕ, ◌+◌, ◌-◌, ◌*◌, ◌<◌, ◌≤◌, Bool, true, false, List, [], ◌∷◌, ◌++◌, length, take, drop, Some, Ok, refl, ap, sym, ◌∙◌, arith, inl, append-nil, append_assoc, length-append, nat_lt, get_or}
use Rattle.std.specs.List.{AllPass}
use Rattle.std.proofs.lemmas.Bool.{eqb-true, le-ltb}
use Rattle.std.proofs.lemmas.List.{drop_more, get_or-append_right, length-take-le, take-append-drop, take_at}
use Rattle.std.proofs.lemmas.List.Elements.{All-nil, All-cons, All-get_or}
use Rattle.hex.specs.Hex.{decode_of, is_hex_digit}
use Rattle.hex.proofs.HexLemmas.{decode_of-ok}
use Rattle.lldp_engine.specs.AgentState.{AgentState, names_of}
use Rattle.lldp_engine.specs.Place.{place_of}
use Rattle.lldp_text.specs.Words.{is_bare, is_separator, words_of, AreWords}
use Rattle.lldp_text.proofs.WordsGrammar.{read_from_spelled}
use Rattle.lldp_program.specs.Trace.Forms.{work_given, form_of, frame_form}
use Rattle.lldp_program.specs.Trace.Work.{frame}
use Rattle.lldp_program.specs.Code.Plain.{is_plain_octet, EndsAt}
use Rattle.lldp_program.proofs.Lines.Pieces.{no_lf-append, none_found}
use Rattle.lldp_program.specs.Code.Pieces.{pieces}

-- a hexadecimal digit is neither a separator nor a quote
digit_is_bare : (c : ℕ) → is_hex_digit c ≡ true → is_bare c ≡ true
digit_is_bare c h = grind (arith)

-- a space is a separator
space : AllPass is_separator (32 ∷ [])
space = All-cons (λ c. is_separator c ≡ true) 32 [] refl (All-nil (λ c. is_separator c ≡ true))

-- `rx NAME DIGITS` has these three words if it has single spaces and no quotes
pub plain_words : (name digits : List ℕ) → 0 < length name → AllPass is_bare name → 0 < length digits → AllPass is_bare digits
    → words_of (114 ∷ 120 ∷ 32 ∷ name ++ 32 ∷ digits) ≡ Some ((114 ∷ 120 ∷ []) ∷ name ∷ digits ∷ [])
plain_words name digits n nb d db =
    let rx : AllPass is_bare (114 ∷ 120 ∷ []) = All-cons (λ c. is_bare c ≡ true) 114 (120 ∷ []) refl (All-cons (λ c. is_bare c ≡ true) 120 [] refl (All-nil (λ c. is_bare c ≡ true))) in
    let third : AreWords (32 ∷ digits) (digits ∷ []) = (32 ∷ [], digits, [], space, inl (d, db, refl), refl, ap (λ (xs : List ℕ). 32 ∷ xs) (sym (append-nil digits)), All-nil (λ c. is_separator c ≡ true)) in
    let second : AreWords (32 ∷ name ++ 32 ∷ digits) (name ∷ digits ∷ []) = (32 ∷ [], name, 32 ∷ digits, space, inl (n, nb, refl), refl, refl, third) in
    let first : AreWords (114 ∷ 120 ∷ 32 ∷ name ++ 32 ∷ digits) ((114 ∷ 120 ∷ []) ∷ name ∷ digits ∷ []) =
    ([], 114 ∷ 120 ∷ [], 32 ∷ name ++ 32 ∷ digits, All-nil (λ c. is_separator c ≡ true), inl (omega arith, rx, refl), refl, refl, second) in
    read_from_spelled ((114 ∷ 120 ∷ []) ∷ name ∷ digits ∷ []) (114 ∷ 120 ∷ 32 ∷ name ++ 32 ∷ digits) first

-- `rx NAME DIGITS` asks for this frame on the port of that name
pub plain_reading : (agent : AgentState) (line name digits octets : List ℕ) (port : ℕ) → line ≡ 114 ∷ 120 ∷ 32 ∷ name ++ 32 ∷ digits → length line ≤ 4096
    → 0 < length name → AllPass is_bare name → 0 < length digits → place_of (names_of agent) name ≡ Some port → decode_of digits ≡ Ok octets
    → work_given agent line ≡ Ok (frame port octets)
unfolding work_given form_of frame_form
plain_reading agent line name digits octets port e short n nb d p o =
    let bare : AllPass is_bare digits = λ i d l. digit_is_bare (get_or digits i d) ((decode_of-ok digits octets o).1 i d l) in
    let words = plain_words name digits n nb d bare in
    let fits : nat_lt 4096 (length line) ≡ false = le-ltb 4096 (length line) short in
    rw (fits, e, words, p, o) refl

plain_is_bare : (c : ℕ) → is_plain_octet c ≡ true → is_bare c ≡ true
plain_is_bare c h = grind (arith)

-- a text of octets that p lets pass has no LF if p stops LF
passing_no_lf : (p : ℕ → Bool) (xs : List ℕ) → p 10 ≡ false → AllPass p xs → pieces xs ≡ []
passing_no_lf p xs stops all =
    none_found xs (λ k low high found.
    let is : get_or xs k 0 ≡ 10 = eqb-true _ _ found in
    let passes : p (get_or xs k 0) ≡ true = All-get_or (λ c. p c ≡ true) xs k 0 high all in
    let bad : p 10 ≡ true = rw is at passes in
    cc (sym stops ∙ bad))

-- a text that begins with `rx NAME DIGITS` and an LF: where its first line ends, and what the line is
pub record FrontLine (text name front : List ℕ) (end : ℕ) : Type 0 where
  pub ends : EndsAt text end
  pub line : take end text ≡ 114 ∷ 120 ∷ 32 ∷ name ++ 32 ∷ front
  pub long : length (take end text) ≡ end

pub front_line : (text name digits octets : List ℕ) (n : ℕ) → text ≡ 114 ∷ 120 ∷ 32 ∷ name ++ 32 ∷ digits → AllPass is_plain_octet name → 2 * n < length digits → get_or digits (2 * n) 0 ≡ 10
    → decode_of (take (2 * n) digits) ≡ Ok octets → FrontLine text name (take (2 * n) digits) (4 + length name + 2 * n)
front_line text name digits octets n e plain within lf o =
    let front : List ℕ = take (2 * n) digits in
    let rest : List ℕ = drop (2 * n + 1) digits in
    let line : List ℕ = 114 ∷ 120 ∷ 32 ∷ name ++ 32 ∷ front in
    let end : ℕ = 4 + length name + 2 * n in
    let split : digits ≡ front ++ 10 ∷ rest = sym (take-append-drop (2 * n) digits) ∙ ap (λ (t : List ℕ). front ++ t) (drop_more digits (2 * n) 0 within ∙ ap (λ (b : ℕ). b ∷ rest) lf) in
    let whole : text ≡ line ++ 10 ∷ rest =
    e ∙ ap (λ (t : List ℕ). 114 ∷ 120 ∷ 32 ∷ (name ++ 32 ∷ t)) split ∙ ap (λ (t : List ℕ). 114 ∷ 120 ∷ 32 ∷ t) (sym (append_assoc name (32 ∷ front) (10 ∷ rest))) in
    let long : length line ≡ end = omega (arith, length-append name (32 ∷ front), length-take-le (2 * n) digits (omega arith)) in
    let taken : take end text ≡ line = ap (take end) whole ∙ take_at line (10 ∷ rest) end long in
    let none : end - end ≡ 0 = omega arith in
    let named = passing_no_lf is_plain_octet name refl plain in
    let digit = passing_no_lf is_hex_digit front refl (decode_of-ok front octets o).1 in
    record {
      ends = record {
        within = omega (arith, ap length whole, length-append line (10 ∷ rest), long);
        line_feed = ap (λ (t : List ℕ). get_or t end 0) whole ∙ get_or-append_right line (10 ∷ rest) end end 0 long (omega arith) ∙ ap (λ (k : ℕ). get_or (10 ∷ rest) k 0) none;
        clear = ap pieces taken ∙ no_lf-append (114 ∷ 120 ∷ 32 ∷ []) (name ++ 32 ∷ front) refl (no_lf-append name (32 ∷ front) named (no_lf-append (32 ∷ []) front refl digit));
      };
      line = taken;
      long = ap length taken ∙ long;
    }

-- what that line asks for
pub front_reading : (agent : AgentState) (text name front octets : List ℕ) (end port : ℕ) → FrontLine text name front end → end ≤ 4096
    → 0 < length name → AllPass is_plain_octet name → 0 < length front → place_of (names_of agent) name ≡ Some port → decode_of front ≡ Ok octets
    → work_given agent (take end text) ≡ Ok (frame port octets)
front_reading agent text name front octets end port line short n plain d p o =
    let bare : AllPass is_bare name = λ i k l. plain_is_bare (get_or name i k) (plain i k l) in
    plain_reading agent (take end text) name front octets port line.line (omega (arith, line.long)) n bare d p o
