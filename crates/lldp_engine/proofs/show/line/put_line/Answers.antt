use Rattle.std.proofs.Common.{arith}
use Rattle.lldp_engine.proofs.Lines.Parts.{three_parts}
use Rattle.lldp_engine.proofs.show.line.put_line.Goals as goal

pub returns : goal.returns
returns g c =
    let written = three_parts _ _ _ _ _ _ _ _ c.text.ensures.value c.text-2.ensures.value c.write_value.ensures.value c.end_line.ensures.value in
    c.begin_line.follows.holds _ _ _ c.in-Some.is written (omega arith)
