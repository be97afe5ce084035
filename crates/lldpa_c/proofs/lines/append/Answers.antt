use Rattle.std.proofs.Common.{◌+◌, ◌-◌, length, ap, arith}
use Rattle.std.proofs.lemmas.Slice.{drop-put_mid}
use Rattle.lldpa_c.proofs.lines.append.Goals as goal

pub returns-clause-rest : goal.returns-clause-rest
returns-clause-rest c =
    let n = length c.args.text.now in
    drop-put_mid c.args.used (c.args.used + n - c.args.used) c.args.room.now _ (c.args.used + n) (omega arith) (omega (arith, c.if-used-room.false)) (omega (arith, ap length c.copy_from_slice.ensures.after))
