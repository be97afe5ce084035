use Rattle.std.proofs.Common.{◌<◌, ℕ, List, ◌∷◌, ◌+◌, ◌*◌, length, take, arith, ap, sym, ◌∙◌}
use Rattle.std.proofs.lemmas.List.{length-take-le}
use Rattle.lldp_program.proofs.Lines.Plain.{front_line, front_reading}
use Rattle.lldp_program.proofs.line.frame_line.Goals as goal

pub returns-clause-ends : goal.returns-clause-ends
returns-clause-ends c =
    let whole = c.in_ok-rest.ensures ∙ ap (λ (xs : List ℕ). 114 ∷ 120 ∷ 32 ∷ xs) c.in_ok-name.ensures.whole in
    let found = c.in_ok-count.ensures in
    (front_line c.args.text.now c.in_ok-name.name.now c.in_ok-name.digits.now _ c.in_ok-count.count whole c.in_ok-name.ensures.plain found.ends found.line_feed found.octets).ends

pub returns-clause-reads : goal.returns-clause-reads
returns-clause-reads c =
    let whole = c.in_ok-rest.ensures ∙ ap (λ (xs : List ℕ). 114 ∷ 120 ∷ 32 ∷ xs) c.in_ok-name.ensures.whole in
    let found = c.in_ok-count.ensures in
    let name : List ℕ = c.in_ok-name.name.now in
    let digits : List ℕ = c.in_ok-name.digits.now in
    let n : ℕ = c.in_ok-count.count in
    let line = front_line c.args.text.now name digits _ n whole c.in_ok-name.ensures.plain found.ends found.line_feed found.octets in
    let some : 0 < length (take (2 * n) digits) = omega (arith, length-take-le (2 * n) digits (omega (arith, found.ends)), c.if-count-eq0.false) in
    front_reading c.args.agent.now c.args.text.now name (take (2 * n) digits) _ (4 + length name + 2 * n) c.in_ok-port.port line c.if-end-gt-LONGEST.false c.in_ok-name.ensures.some c.in_ok-name.ensures.plain some (sym c.find_port.ensures.place ∙ c.in_ok-port.was) found.octets
