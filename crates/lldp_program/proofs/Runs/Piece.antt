-- A run that reads one more piece of its trace.
use Rattle.std.proofs.Common.{◌≡◌, ℕ, ◌+◌, List, [], ◌++◌, take, drop, sym, ap, subst, ◌∙◌, arith, Option}
use Rattle.std.specs.Io.KnownBytes.{Appends, Consumes}
use Rattle.std.proofs.lemmas.List.{append-nil, take-take}
use Rattle.std.proofs.Math.Seq.{take-add}
use Rattle.lldp_engine.specs.Past.{Past}
use Rattle.lldp_engine.specs.AgentState.{AgentState}
use Rattle.lldp_program.specs.Trace.Lines.{lines_of, ended_lines}
use Rattle.lldp_program.specs.Trace.Items.{Item, after_all, text_of_all, items_of_lines}
use Rattle.std.specs.Prelude.{Result}
use Rattle.lldp_program.specs.declared.device.DeviceFault.{DeviceFault}
use Rattle.lldp_program.specs.declared.trace.RunFault.{RunFault}
use Rattle.lldp_program.specs.Code.Parts.{Ended}
use Rattle.lldp_program.specs.Trace.Runs.{HasRun}
use Rattle.lldp_program.proofs.Texts.Written.{consumes_then}
use Rattle.lldp_program.proofs.Runs.Items.{items_of_lines-append}
use Rattle.lldp_program.proofs.Lines.Pieces.{pieces-append, unfinished_no_lf, no_lf-take, lines_are, ended_are}
use Rattle.lldp_program.proofs.Lines.Long.{same_items, same_last}
use Rattle.lldp_program.proofs.Runs.Joined.{ended_then}
use Rattle.lldp_program.specs.Code.Pieces.{pieces, unfinished, if_any}

-- the buffer has the kept octets at its front, and then the new piece
pub held_and_piece : (old new : List ℕ) (held n : ℕ) (p : List ℕ) → take held new ≡ take held old → take held old ≡ take 4097 p → take (held + n) new ≡ take 4097 p ++ take n (drop held new)
held_and_piece old new held n p kept is = take-add held n new ∙ ap (λ t. t ++ take n (drop held new)) (kept ∙ is)

-- the octets kept at the front of the buffer contain no LF
pub held_no_lf : (old new : List ℕ) (held n : ℕ) (xs : List ℕ) → take held new ≡ take held old → take held old ≡ take 4097 (unfinished xs) → pieces (take held (take (held + n) new)) ≡ []
held_no_lf old new held n xs kept is =
    ap pieces (take-take held (held + n) new (omega arith) ∙ kept ∙ is) ∙ no_lf-take 4097 (unfinished xs) (unfinished_no_lf xs)

-- if the last read returned the end, the input so far is all that was consumed
pub consumes_end : (a b c : Option (List ℕ)) (xs ys : List ℕ) (n : ℕ) → Consumes a b xs → n ≡ 0 → Consumes b c (take n ys) → Consumes a c xs
consumes_end a b c xs ys n h zero k =
    let none : take n ys ≡ [] = ap (λ k. take k ys) zero in
    let joined : xs ++ take n ys ≡ xs = ap (λ t. xs ++ t) none ∙ append-nil xs in
    rw joined at (consumes_then a b c xs (take n ys) h k)

-- how a run with the answer r ends, if all earlier lines were done
module _ {T : Type 0} (r : Result T DeviceFault) (past : Past) (a b c : Option (List ℕ)) (agent : AgentState) where
  lines_end : (ls ms : List (List ℕ)) → Appends a b (text_of_all past (items_of_lines past ls))
      → Ended r (after_all past (items_of_lines past ls)) (items_of_lines (after_all past (items_of_lines past ls)) ms) b c agent
      → Ended r past (items_of_lines past (ls ++ ms)) a c agent
  lines_end ls ms h k =
      subst (λ (items : List Item). Ended r past items a c agent) (sym (items_of_lines-append past ls ms)) (ended_then past _ _ r a b c agent h k)

  -- the lines that end in the new piece
  pub piece_ends : (xs ys octets : List ℕ) → octets ≡ take 4097 (unfinished xs) ++ ys → Appends a b (text_of_all past (items_of_lines past (pieces xs)))
      → Ended r (after_all past (items_of_lines past (pieces xs))) (items_of_lines (after_all past (items_of_lines past (pieces xs))) (pieces octets)) b c agent
      → Ended r past (items_of_lines past (pieces (xs ++ ys))) a c agent
  piece_ends xs ys octets is h k =
      let now = after_all past (items_of_lines past (pieces xs)) in
      let same = ap (λ t. items_of_lines now (pieces t)) is ∙ same_items now xs ys in
      subst (λ (ls : List (List ℕ)). Ended r past (items_of_lines past ls) a c agent) (sym (pieces-append xs ys))
      (lines_end (pieces xs) (pieces (unfinished xs ++ ys)) h (subst (λ (items : List Item). Ended r now items b c agent) same k))

  -- the last line, which has no LF
  pub last_ends : (xs rest : List ℕ) → rest ≡ take 4097 (unfinished xs) → Appends a b (text_of_all past (items_of_lines past (pieces xs)))
      → Ended r (after_all past (items_of_lines past (pieces xs))) (items_of_lines (after_all past (items_of_lines past (pieces xs))) (if_any rest)) b c agent
      → Ended r past (items_of_lines past (lines_of xs)) a c agent
  last_ends xs rest is h k =
      let now = after_all past (items_of_lines past (pieces xs)) in
      let same = ap (λ t. items_of_lines now (if_any t)) is ∙ same_last now (unfinished xs) in
      subst (λ (ls : List (List ℕ)). Ended r past (items_of_lines past ls) a c agent) (sym (lines_are xs))
      (lines_end (pieces xs) (if_any (unfinished xs)) h (subst (λ (items : List Item). Ended r now items b c agent) same k))

-- the pieces before each LF are the lines that end with an LF
pub ended_with : {T : Type 0} (r : Result T DeviceFault) (past : Past) (a b : Option (List ℕ)) (agent : AgentState) (input : List ℕ)
    → Ended r past (items_of_lines past (pieces input)) a b agent → Ended r past (items_of_lines past (ended_lines input)) a b agent
ended_with r past a b agent input h = subst (λ (ls : List (List ℕ)). Ended r past (items_of_lines past ls) a b agent) (sym (ended_are input)) h

-- `HasRun` still holds if the sink's octets and the agent are replaced by equal ones
pub same_run : {T : Type 0} {to_come left old : Option (List ℕ)} {before : AgentState} {result : Result T RunFault} (new kept : Option (List ℕ)) (agent after : AgentState) → kept ≡ new → after ≡ agent
    → HasRun to_come left old new before agent result → HasRun to_come left old kept before after result
same_run new kept agent after same is h = rw (same, is) h
