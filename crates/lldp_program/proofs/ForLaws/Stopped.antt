-- What a run has done if its output failed.
use Rattle.std.proofs.Common.{◌≡◌, ◌≢◌, ℕ, ◌+◌, ◌<◌, List, [], ◌∷◌, ◌++◌, length, take, Option, refl, sym, ap, ◌∙◌, subst, append_assoc, append-nil, arith}
use Rattle.std.proofs.lemmas.List.{length-append}
use Rattle.std.proofs.Math.Seq.{take-append_seam}
use Rattle.lldp_engine.specs.AgentState.{AgentState}
use Rattle.lldp_engine.specs.Past.{Past}
use Rattle.lldp_engine.specs.Standing.{Stands}
use Rattle.lldp_program.specs.Trace.Items.{Item, after_all, text_of, text_of_all}
use Rattle.lldp_program.specs.Trace.Runs.{Failed}
use Rattle.lldp_program.specs.Laws.Stopped.{StopsInOrder}
use Rattle.lldp_program.proofs.Runs.Items.{text_of_all-append}

not_empty : (rest : List ℕ) → rest ≢ [] → 0 < length rest
not_empty [] missing = absurd (missing refl)
not_empty (octet ∷ rest) missing = omega arith

pub stops_in_order : (past : Past) (items : List Item) (old new : Option (List ℕ)) (agent : AgentState) → Failed past items old new agent → StopsInOrder past items old new agent
stops_in_order past items old new agent h =
    let done : List Item = h.before ++ h.item ∷ [] in
    let many : length done ≡ 1 + length h.before = length-append h.before (h.item ∷ []) ∙ omega arith in
    let firsts : take (length h.before) items ≡ h.before = ap (take (length h.before)) h.in_order ∙ take-append_seam h.before (h.item ∷ h.later) in
    let whole : items ≡ done ++ h.later = h.in_order ∙ sym (append_assoc h.before (h.item ∷ []) h.later) in
    let all : take (1 + length h.before) items ≡ done = ap (λ n. take n items) (sym many) ∙ ap (take (length done)) whole ∙ take-append_seam done h.later in
    let text : text_of_all past done ≡ text_of_all past h.before ++ text_of (after_all past h.before) h.item =
    text_of_all-append past h.before (h.item ∷ []) ∙ ap (λ xs. text_of_all past h.before ++ xs) (append-nil (text_of (after_all past h.before) h.item)) in
    let joined = ap (λ xs. text_of_all past h.before ++ xs) h.cut_off.joined ∙ sym (append_assoc (text_of_all past h.before) h.part h.cut_off.rest) in
    let lengths = length-append (text_of_all past h.before) h.part in
    record {
      before = length h.before;
      there = let all_of = ap (λ (xs : List Item). length xs) h.in_order ∙ length-append h.before (h.item ∷ h.later) in omega (arith, all_of);
      stands = subst (λ xs. Stands (after_all past xs) agent) (sym all) h.stands;
      text = text_of_all past h.before ++ h.part;
      rest = h.cut_off.rest;
      written = h.written;
      in_order = ap (text_of_all past) all ∙ text ∙ joined;
      least = let same = ap (λ xs. length (text_of_all past xs)) firsts in omega (arith, same, lengths);
      some_left = not_empty h.cut_off.rest h.cut_off.missing;
    }
