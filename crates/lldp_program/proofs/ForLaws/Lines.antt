-- An input is cut into lines at each LF, and nowhere else.
use Rattle.std.proofs.Common.{◌≡◌, ℕ, List, [], ◌∷◌, ◌++◌, refl, ap, ◌∙◌, inl, inr, append_assoc, append-nil}
use Rattle.std.specs.Prelude.{◌≢◌}
use Rattle.std.proofs.lemmas.Bool.{cases_eq}
use Rattle.lldp_program.specs.Laws.Lines.{HasNoLf, joined, IsCut, CutsLines}
use Rattle.lldp_program.proofs.Lines.Pieces.{pieces-other, unfinished-other, lines_are, ended_are}
use Rattle.lldp_program.specs.Code.Pieces.{pieces, unfinished, onto_lines, onto_rest, if_any}
use Rattle.lldp_program.specs.Trace.Lines.{lines_of}

onto : (octet : ℕ) (lines : List (List ℕ)) (rest octets : List ℕ) → octet ≢ 10 → IsCut octets lines rest → IsCut (octet ∷ octets) (onto_lines octet lines) (onto_rest octet lines rest)
onto octet [] rest octets ne c = record { whole = ap (λ (xs : List ℕ). octet ∷ xs) c.whole; each = tt; last = (ne, c.last) }
onto octet (line ∷ lines) rest octets ne c = record { whole = ap (λ (xs : List ℕ). octet ∷ xs) c.whole; each = ((ne, c.each.0), c.each.1); last = c.last }

is_cut : (input : List ℕ) → IsCut input (pieces input) (unfinished input)
is_cut [] = record { whole = refl; each = tt; last = tt }
is_cut (octet ∷ octets) =
    let c = is_cut octets in
    elim (cases_eq octet 10) [
      | inl e ↦ rw e (record { whole = ap (λ (xs : List ℕ). 10 ∷ xs) c.whole; each = (tt, c.each); last = c.last })
      | inr ne ↦ rw (pieces-other octet octets ne, unfinished-other octet octets ne) (onto octet (pieces octets) (unfinished octets) octets ne c)
    ]

-- the octets before the first LF are the first line
front : (line octets : List ℕ) → HasNoLf line → (pieces (line ++ 10 ∷ octets) ≡ line ∷ pieces octets) × (unfinished (line ++ 10 ∷ octets) ≡ unfinished octets)
front [] octets clear = (refl, refl)
front (octet ∷ line) octets clear =
    let more = front line octets clear.1 in (
      pieces-other octet (line ++ 10 ∷ octets) clear.0 ∙ ap (onto_lines octet) more.0,
      unfinished-other octet (line ++ 10 ∷ octets) clear.0 ∙ ap (λ (ls : List (List ℕ)). onto_rest octet ls (unfinished (line ++ 10 ∷ octets))) more.0 ∙ more.1,
    )

back : (rest : List ℕ) → HasNoLf rest → (pieces rest ≡ []) × (unfinished rest ≡ rest)
back [] clear = (refl, refl)
back (octet ∷ rest) clear =
    let more = back rest clear.1 in (
      pieces-other octet rest clear.0 ∙ ap (onto_lines octet) more.0,
      unfinished-other octet rest clear.0 ∙ ap (λ (ls : List (List ℕ)). onto_rest octet ls (unfinished rest)) more.0 ∙ ap (λ (xs : List ℕ). octet ∷ xs) more.1,
    )

only : (lines : List (List ℕ)) (rest input : List ℕ) → IsCut input lines rest → (pieces input ≡ lines) × (unfinished input ≡ rest)
only [] rest input c = let b = back rest c.last in (ap pieces c.whole ∙ b.0, ap unfinished c.whole ∙ b.1)
only (line ∷ lines) rest input c =
    let octets = joined lines ++ rest in
    let whole : input ≡ line ++ 10 ∷ octets = c.whole ∙ append_assoc line (10 ∷ joined lines) rest in
    let f = front line octets c.each.0 in
    let more = only lines rest octets (record { whole = refl; each = c.each.1; last = c.last }) in
    (ap pieces whole ∙ f.0 ∙ ap (λ (ls : List (List ℕ)). line ∷ ls) more.0, ap unfinished whole ∙ f.1 ∙ more.1)

if_some : (rest : List ℕ) → rest ≢ [] → if_any rest ≡ rest ∷ []
if_some [] ne = absurd (ne refl)
if_some (octet ∷ octets) ne = refl

lines : (lines : List (List ℕ)) (rest input : List ℕ) → IsCut input lines rest → lines_of input ≡ lines ++ if_any rest
lines ls rest input c = let o = only ls rest input c in lines_are input ∙ rw (o.0, o.1) refl

pub cuts : (input : List ℕ) → CutsLines input
cuts input = record {
  cut = (pieces input, unfinished input, is_cut input);
  ended = λ ls rest c. ended_are input ∙ (only ls rest input c).0;
  whole = λ ls c. lines ls [] input c ∙ append-nil ls;
  unended = λ ls rest ne c. lines ls rest input c ∙ ap (λ (xs : List (List ℕ)). ls ++ xs) (if_some rest ne);
}
