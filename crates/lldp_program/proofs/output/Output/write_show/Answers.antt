use Rattle.lldp_program.specs.Code.Parts.{output_state}
use Rattle.lldp_program.proofs.Texts.Taken.{text_written, lines_put}
use Rattle.lldp_program.proofs.output.Output.write_show.Goals as goal

pub returns : goal.returns
returns g c =
    let lines = lines_put (output_state g.W.Sink.taken g.W.Sink.failures g.W.Sink.place) _ _ _ c.show_lines.ensures.value in
    rw c.end.ensures.answer (text_written _ _ _ _ _ c.begin.ensures lines c.end.ensures.flushed)
