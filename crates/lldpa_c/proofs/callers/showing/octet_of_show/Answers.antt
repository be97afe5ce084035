use Rattle.std.proofs.Common.{◌≡◌, ℕ, zero, suc, ◌+◌, ◌-◌, ◌<◌, ◌≤◌, ◌++◌, true, false, max, List, [], ◌∷◌, length, take, drop, None, Some, slice_get, slice_index_or, refl, sym, ap, subst, ◌∙◌, arith}
use Rattle.std.specs.List.{flat_map}
use Rattle.std.proofs.lemmas.Grind.{flat_map-append}
use Rattle.std.proofs.lemmas.List.{take-append-drop, drop-drop, length-take, get_or-take}
use Rattle.std.proofs.Math.ListN.{drop_of_length-le}
use Rattle.std.proofs.lemmas.Option.{slice_get-get_or, slice_get_within}
use Rattle.lldp_text.specs.Text.{ended}
use Rattle.lldp_engine.specs.declared.command.Show.{Show}
use Rattle.lldp_engine.specs.declared.command.Show.TheVariants.{Neighbors}
use Rattle.lldp_engine.specs.AgentState.{AgentState}
use Rattle.lldp_engine.specs.Lines.{lines_of}
use Rattle.lldpa_c.specs.declared.lines.LldpaLines.{LldpaLines}
use Rattle.lldpa_c.specs.Filled.{Fills, IsFull, Filled}
use Rattle.lldpa_c.proofs.callers.showing.octet_of_show.Goals as goal

-- what is left from a line on begins with the page that begins there
page : (lines : List (List ℕ)) (from next : ℕ) (octets : List ℕ) → Fills lines from next octets → flat_map ended (drop from lines) ≡ octets ++ flat_map ended (drop next lines)
page lines from next octets f =
    let there : from + (next - from) ≡ next = omega (arith, f.order) in
    let behind : drop (next - from) (drop from lines) ≡ drop next lines = drop-drop (next - from) from lines ∙ ap (λ (n : ℕ). drop n lines) there in
    ap (flat_map ended) (sym (take-append-drop (next - from) (drop from lines)))
    ∙ flat_map-append ended (take (next - from) (drop from lines)) (drop (next - from) (drop from lines))
    ∙ ap (λ (ls : List (List ℕ)). flat_map ended (take (next - from) (drop from lines)) ++ flat_map ended ls) behind
    ∙ ap (λ (os : List ℕ). os ++ flat_map ended (drop next lines)) (sym f.are)

front : (xs ys : List ℕ) (i : ℕ) → i < length xs → slice_get (xs ++ ys) i ≡ slice_get xs i
front [] ys i h = absurd (omega (arith, h))
front (x ∷ xs) ys zero h = refl
front (x ∷ xs) ys (suc i) h = front xs ys i (omega (arith, h))

behind : (xs ys : List ℕ) (i : ℕ) → slice_get (xs ++ ys) (length xs + i) ≡ slice_get ys i
behind [] ys i = ap (slice_get ys) (omega (arith))
behind (x ∷ xs) ys i = ap (slice_get (x ∷ (xs ++ ys))) there ∙ behind xs ys i
  where
    there : length (x ∷ xs) + i ≡ suc (length xs + i)
    there = omega (arith)

-- one page of the neighbors' lines
record Page (lines : List (List ℕ)) (from : ℕ) (told : LldpaLines) (room : List ℕ) : Type 0 where
  fills : Fills lines from told.next (take told.length room)
  done : told.done ≡ true → told.next ≡ max from (length lines)
  some : told.done ≡ false → from < told.next
  full : told.done ≡ false → IsFull lines told.next (length room) told.length

page_of : (agent same : AgentState) (from : ℕ) (told : LldpaLines) (room : List ℕ) → agent ≡ same → Filled agent 1 from told room → Page (lines_of Neighbors same) from told room
page_of agent same from told room e f =
    let n : Some Neighbors ≡ Some f.show = f.numbered in
    let s : f.show ≡ Neighbors = cc in
    subst (λ (a : AgentState). Page (lines_of Neighbors a) from told room) e
    (subst (λ (show : Show). Page (lines_of show agent) from told room) s
    (record { fills = f.lines; done = f.done; some = f.some; full = f.full }))

-- an octet of this page
here : (lines : List (List ℕ)) (from n left : ℕ) (told : LldpaLines) (room : List ℕ) → Page lines from told room → told.length ≤ length room → left < told.length
    → slice_get (flat_map ended (drop from lines)) left ≡ slice_get (flat_map ended lines) n
    → Some (slice_index_or room left 0) ≡ slice_get (flat_map ended lines) n
here lines from n left told room p fits h is =
    let long : left < length (take told.length room) = omega (arith, h, fits, length-take told.length room) in
    ap (λ (x : ℕ). Some x) (sym (get_or-take told.length room left 0 h))
    ∙ sym (slice_get-get_or (take told.length room) left 0 long)
    ∙ sym (front (take told.length room) (flat_map ended (drop told.next lines)) left long)
    ∙ ap (λ (os : List ℕ). slice_get os left) (sym (page lines from told.next (take told.length room) p.fills))
    ∙ is

-- an octet behind this page
later : (lines : List (List ℕ)) (from n left : ℕ) (told : LldpaLines) (room : List ℕ) → Page lines from told room → told.length ≤ length room → told.length ≤ left
    → slice_get (flat_map ended (drop from lines)) left ≡ slice_get (flat_map ended lines) n
    → slice_get (flat_map ended (drop told.next lines)) (left - told.length) ≡ slice_get (flat_map ended lines) n
later lines from n left told room p fits h is =
    let len : length (take told.length room) + (left - told.length) ≡ left = omega (arith, h, fits, length-take told.length room) in
    sym (behind (take told.length room) (flat_map ended (drop told.next lines)) (left - told.length))
    ∙ ap (slice_get (take told.length room ++ flat_map ended (drop told.next lines))) len
    ∙ ap (λ (os : List ℕ). slice_get os left) (sym (page lines from told.next (take told.length room) p.fills))
    ∙ is

-- behind the last page nothing is left
nothing : (lines : List (List ℕ)) (from n left : ℕ) (told : LldpaLines) (room : List ℕ) → Page lines from told room → told.length ≤ length room → told.length ≤ left → told.done ≡ true
    → slice_get (flat_map ended (drop from lines)) left ≡ slice_get (flat_map ended lines) n
    → None ≡ slice_get (flat_map ended lines) n
nothing lines from n left told room p fits h done is =
    let last : length lines ≤ told.next = omega (arith, p.done done) in
    let none : flat_map ended (drop told.next lines) ≡ [] = ap (flat_map ended) (drop_of_length-le lines last) in
    sym (ap (λ (os : List ℕ). slice_get os (left - told.length)) none) ∙ later lines from n left told room p fits h is

pub returns-then-left-told : goal.returns-then-left-told
returns-then-left-told c =
    let i = c.page.invariant in
    let answer = c.lldpa_show_lines-answer in
    let p = page_of c.page.agent.held.agent c.args.agent.now.held.agent c.page.from answer.new.told answer.new.room i.1 (answer.ensures.filled c.if-answer-ne0.false) in
    here (lines_of Neighbors c.args.agent.now.held.agent) c.page.from c.args.n c.page.left answer.new.told answer.new.room p
    (answer.ensures.rest c.if-answer-ne0.false).within c.if-left-told.true i.3

pub returns-then-told : goal.returns-then-told
returns-then-told c =
    let i = c.page.invariant in
    let answer = c.lldpa_show_lines-answer in
    let p = page_of c.page.agent.held.agent c.args.agent.now.held.agent c.page.from answer.new.told answer.new.room i.1 (answer.ensures.filled c.if-answer-ne0.false) in
    nothing (lines_of Neighbors c.args.agent.now.held.agent) c.page.from c.args.n c.page.left answer.new.told answer.new.room p
    (answer.ensures.rest c.if-answer-ne0.false).within c.if-left-told.false c.if-told.true i.3

pub page-smaller : goal.page-smaller
page-smaller c =
    let i = c.page.invariant in
    let answer = c.lldpa_show_lines-answer in
    let p = page_of c.page.agent.held.agent c.args.agent.now.held.agent c.page.from answer.new.told answer.new.room i.1 (answer.ensures.filled c.if-answer-ne0.false) in
    let full = p.full c.if-told.false in
    omega (arith, p.some c.if-told.false, slice_get_within (lines_of Neighbors c.args.agent.now.held.agent) answer.new.told.next full.line full.is)

pub page-preserved : goal.page-preserved
page-preserved c =
    let i = c.page.invariant in
    let answer = c.lldpa_show_lines-answer in
    let lines = lines_of Neighbors c.args.agent.now.held.agent in
    let p = page_of c.page.agent.held.agent c.args.agent.now.held.agent c.page.from answer.new.told answer.new.room i.1 (answer.ensures.filled c.if-answer-ne0.false) in
    let full = p.full c.if-told.false in
    let next : answer.new.told.next ≤ length lines = omega (arith, slice_get_within lines answer.new.told.next full.line full.is) in (
      answer.ensures.kept.is_open ∙ i.0,
      answer.ensures.kept.agent i.0 ∙ i.1,
      next,
      later lines c.page.from c.args.n c.page.left answer.new.told answer.new.room p (answer.ensures.rest c.if-answer-ne0.false).within c.if-left-told.false i.3,
    )
