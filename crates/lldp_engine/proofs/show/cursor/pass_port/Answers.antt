use Rattle.std.proofs.Common.{length, ap, arith}
use Rattle.lldp_table.specs.Contents.{Contents}
use Rattle.lldp_engine.proofs.Lines.Cursors.{passes_port}
use Rattle.lldp_engine.proofs.show.cursor.pass_port.Goals as goal

pub returns-clause-cursor : goal.returns-clause-cursor
returns-clause-cursor g c =
    passes_port c.args.ports.now c.args.cursor.now c.index-ports-port.result c.requires.cursor c.index-ports-port.is
    (omega (arith, c.if-cursor-len.false, c.len.ensures.value, ap (λ (t : Contents). length t.neighbors) c.table.ensures)) c.if-port-ports.false
