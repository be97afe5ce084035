use Rattle.std.proofs.Common.{◌≡◌, ◌+◌, ◌-◌, ◌++◌, ℕ, length, drop, ap, sym, ◌∙◌, arith}
use Rattle.std.proofs.lemmas.Slice.{drop-put_mid}
use Rattle.std.proofs.Math.Seq.{drop-append-add}
use Rattle.std.proofs.lemmas.List.{length-append, length-drop, drop-drop}
use Rattle.lldpa_c.proofs.values.give_text.Goals as goal

pub returns-clause-rest : goal.returns-clause-rest
returns-clause-rest c _ =
    let head = c.args.head.now in
    let room = c.args.room.now in
    let n = c.len.result in
    let end = length head + n in
    let copied = c.copy_from_slice.new.self in
    let first = copied ++ drop (length head) room in
    let len : length copied ≡ length head = ap length c.copy_from_slice.ensures.after in
    drop-put_mid (length head) (length head + n - length head) first c.write.new.room end (omega arith)
    (omega (arith, len, length-append copied (drop (length head) room), length-drop (length head) room, c.if-end-room.false))
    (omega (arith, ap length c.write.ensures, c.len.ensures.value))
    ∙ ap (λ (m : ℕ). drop (m + n) first) (sym len)
    ∙ drop-append-add copied (drop (length head) room) n
    ∙ drop-drop n (length head) room
