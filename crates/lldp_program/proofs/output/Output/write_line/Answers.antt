use Rattle.lldp_program.proofs.Texts.Taken.{text_written}
use Rattle.lldp_program.proofs.output.Output.write_line.Goals as goal

pub returns : goal.returns
returns g c = rw c.end.ensures.answer (text_written _ _ _ _ _ c.begin.ensures c.put_line.ensures c.end.ensures.flushed)
