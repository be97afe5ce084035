-- Which form the first word of a line begins, and which lines are skipped.
use Rattle.std.proofs.Common.{◌≡◌, ℕ, ◌≤◌, ◌⊎◌, true, false, Bool, List, [], ◌∷◌, ◌++◌, length, Result, Ok, Err, refl, ap, inl, inr}
use Rattle.std.specs.Prelude.{◌≢◌, ◌==◌, if◌then◌else◌, ok_or}
use Rattle.std.proofs.lemmas.Bool.{cases_Bool, cases_lt, lt-ltb, le-ltb, eqb-true, or_cases}
use Rattle.std.proofs.lemmas.Slice.Eq.{bytes_eq-Decides}
use Rattle.std.specs.Str.{bytes_eq}
use Rattle.hex.specs.Hex.{decode_of}
use Rattle.lldp_text.specs.declared.fault.CommandFault.{CommandFault}
use Rattle.lldp_text.specs.declared.fault.CommandFault.TheVariants.{Quote}
use Rattle.lldp_text.specs.Answer.{on_ok, ◌>>=◌}
use Rattle.lldp_text.specs.Number.{number_of}
use Rattle.lldp_text.specs.Words.{words_of, is_separator}
use Rattle.lldp_engine.specs.AgentState.{AgentState, names_of}
use Rattle.lldp_engine.specs.Given.{command_said}
use Rattle.lldp_engine.specs.NextWords.{word_said, port_said, end_said}
use Rattle.lldp_engine.specs.Command.{Command as Asked}
use Rattle.lldp_program.specs.declared.line.LineFault.{LineFault}
use Rattle.lldp_program.specs.Trace.Forms.{of_command, tick_form, frame_form, link_form, form_of, is_skipped, work_given}
use Rattle.lldp_program.specs.Laws.Sayings.{tick_word, rx_word, up_word, down_word, AreBlanks, IsPassedOver, SkipsLines}
use Rattle.lldp_program.specs.Trace.Work.{Work, skip, ticks, command}
use Rattle.std.specs.Result.{result_map_both}
use Rattle.lldp_program.specs.declared.line.LineFault.TheVariants.{Hex}

differs : (a b : List ℕ) → a ≢ b → bytes_eq a b ≡ false
differs a b ne = elim (cases_Bool (bytes_eq a b)) [
  | inl same ↦ absurd (ne ((bytes_eq-Decides a b).0 same))
  | inr not_same ↦ not_same
]

-- every other first word begins a command
pub command_begins : (agent : AgentState) (words : List (List ℕ)) (word : List ℕ) → word ≢ tick_word → word ≢ rx_word → word ≢ up_word → word ≢ down_word
    → form_of agent (word ∷ words) ≡ on_ok command (of_command (command_said agent (word ∷ words)))
unfolding form_of
command_begins agent words word a b c d = rw (differs word tick_word a, differs word rx_word b, differs word up_word c, differs word down_word d) refl

-- a sequence of two steps never returns skip if the second step never does
then_never : {A : Type 0} (r : Result A LineFault) (next : A → Result Work LineFault) → ((a : A) → next a ≡ Ok skip → ⊥) → (r >>= next) ≡ Ok skip → ⊥
then_never (Ok a) next never h = never a h
then_never (Err fault) next never h = cc

ticks_never : (words : List (List ℕ)) → tick_form words ≡ Ok skip → ⊥
unfolding tick_form
ticks_never [] h = cc
ticks_never (word ∷ words) h = then_never (of_command (number_of word 1 65535)) _ (λ n. then_never (of_command (end_said words)) _ (λ _ k. cc)) h

-- `tick` with one word after it asks for that number of ticks, or has the fault of that word
pub counted : (r : Result ℕ LineFault) → (r >>= (λ n. of_command (end_said []) >>= (λ _. Ok (ticks n)))) ≡ on_ok ticks r
counted (Ok n) = refl
counted (Err fault) = refl

frame_never : (agent : AgentState) (words : List (List ℕ)) → frame_form agent words ≡ Ok skip → ⊥
unfolding frame_form
frame_never agent words h =
    then_never (of_command (port_said (names_of agent) words)) _ (λ port. then_never (of_command (word_said port.1)) _ (λ digits.
    then_never (result_map_both (λ octets. octets) (λ fault. Hex) (decode_of digits.0)) _ (λ octets. then_never (of_command (end_said digits.1)) _ (λ _ k. cc)))) h

link_never : (agent : AgentState) (up : Bool) (words : List (List ℕ)) → link_form agent up words ≡ Ok skip → ⊥
unfolding link_form
link_never agent up words h =
    then_never (of_command (port_said (names_of agent) words)) _ (λ port. then_never (of_command (end_said port.1)) _ (λ _ k. cc)) h

asked_never : (r : Result Asked CommandFault) → on_ok command (of_command r) ≡ Ok skip → ⊥
asked_never (Ok asked) h = cc
asked_never (Err fault) h = cc

-- an `if` never returns skip if neither branch does
either_never : (b : Bool) (x y : Result Work LineFault) → (x ≡ Ok skip → ⊥) → (y ≡ Ok skip → ⊥) → (if b then x else y) ≡ Ok skip → ⊥
either_never true x y p q h = p h
either_never false x y p q h = q h

form_never : (agent : AgentState) (words : List (List ℕ)) → form_of agent words ≡ Ok skip → ⊥
unfolding form_of
form_never agent [] h = cc
form_never agent (word ∷ words) h =
    either_never (bytes_eq word tick_word) _ _ (ticks_never words) (either_never (bytes_eq word rx_word) _ _ (frame_never agent words)
    (either_never (bytes_eq word up_word) _ _ (link_never agent true words) (either_never (bytes_eq word down_word) _ _ (link_never agent false words)
    (asked_never (command_said agent (word ∷ words)))))) h

blank : (octet : ℕ) → is_separator octet ≡ true → (octet ≡ 0x20) ⊎ (octet ≡ 0x09)
blank octet h = elim (or_cases (octet == 32) (octet == 9) h) [
  | inl space ↦ inl (eqb-true octet 32 space)
  | inr tab ↦ inr (eqb-true octet 9 tab)
]

separates : (octet : ℕ) → (octet ≡ 0x20) ⊎ (octet ≡ 0x09) → is_separator octet ≡ true
separates octet (inl space) = rw space refl
separates octet (inr tab) = rw tab refl

blank_before : (octet : ℕ) (octets : List ℕ) → (octet ≡ 0x20) ⊎ (octet ≡ 0x09) → IsPassedOver octets → IsPassedOver (octet ∷ octets)
blank_before octet octets b (inl all) = inl (b, all)
blank_before octet octets b (inr some) = inr (octet ∷ some.0, some.1, (b, some.2), ap (λ (xs : List ℕ). octet ∷ xs) some.3)

pub skipped_is_passed : (line : List ℕ) → is_skipped line ≡ true → IsPassedOver line
skipped_is_passed [] h = inl tt
skipped_is_passed (octet ∷ octets) h = elim (cases_Bool (is_separator octet)) [
  | inl is ↦ blank_before octet octets (blank octet is) (skipped_is_passed octets (rw is at h))
  | inr not_one ↦ let hash : (octet == 35) ≡ true = rw not_one at h in inr ([], octets, tt, ap (λ (x : ℕ). x ∷ octets) (eqb-true octet 35 hash))
]

blanks_are_skipped : (octets : List ℕ) → AreBlanks octets → is_skipped octets ≡ true
blanks_are_skipped [] all = refl
blanks_are_skipped (octet ∷ octets) all = rw (separates octet all.0) (blanks_are_skipped octets all.1)

comments_are_skipped : (blanks rest : List ℕ) → AreBlanks blanks → is_skipped (blanks ++ 0x23 ∷ rest) ≡ true
comments_are_skipped [] rest all = refl
comments_are_skipped (octet ∷ octets) rest all = rw (separates octet all.0) (comments_are_skipped octets rest all.1)

pub passed_is_skipped : (line : List ℕ) → IsPassedOver line → is_skipped line ≡ true
passed_is_skipped line (inl all) = blanks_are_skipped line all
passed_is_skipped line (inr some) = rw some.3 (comments_are_skipped some.0 some.1 some.2)

skips_then : (agent : AgentState) (line : List ℕ) → work_given agent line ≡ Ok skip → (length line ≤ 4096) × IsPassedOver line
unfolding work_given
skips_then agent line h = elim (cases_lt 4096 (length line)) [
  | inl long ↦ let bad = rw (lt-ltb 4096 (length line) long) at h in cc
  | inr short ↦
      let fits = rw (le-ltb 4096 (length line) short) at h in
      elim (cases_Bool (is_skipped line)) [
        | inl is ↦ (short, skipped_is_passed line is)
        | inr not_one ↦ absurd (then_never (of_command (ok_or (words_of line) Quote)) (form_of agent) (form_never agent) (rw not_one at fits))
      ]
]

pub skips_from : (agent : AgentState) (line : List ℕ) → (length line ≤ 4096) × IsPassedOver line → work_given agent line ≡ Ok skip
unfolding work_given
skips_from agent line h = rw (le-ltb 4096 (length line) h.0, passed_is_skipped line h.1) refl

pub skips : (agent : AgentState) (line : List ℕ) → SkipsLines agent line
skips agent line = (skips_then agent line, skips_from agent line)
