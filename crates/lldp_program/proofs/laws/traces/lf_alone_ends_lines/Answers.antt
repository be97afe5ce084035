use Rattle.lldp_program.proofs.ForLaws.Lines.{cuts}
use Rattle.lldp_program.proofs.laws.traces.lf_alone_ends_lines.Goals as goal

pub returns : goal.returns
returns c = cuts
