use Rattle.std.proofs.Common.{ap, ◌∙◌, arith}
use Rattle.std.specs.Prelude.{slice_get}
use Rattle.lldp_engine.specs.AgentState.{AgentState}
use Rattle.lldp_engine.specs.Lines.{lines_of}
use Rattle.lldp_engine.proofs.Lines.OneKept.{is_short, gives, wanted_line}
use Rattle.lldp_engine.proofs.agent.Agent.keep_line.Goals as goal

pub returns-clause-line : goal.returns-clause-line
returns-clause-line g c = wanted_line c.args.i _ _ _ _ (rw c.want.ensures at c.show_lines.ensures.value) (gives _)

pub returns-clause-short : goal.returns-clause-short
returns-clause-short g c = is_short _ _ _ (rw c.want.ensures at c.show_lines.ensures.value) (omega arith)

pub returns-clause-past : goal.returns-clause-past
returns-clause-past g c = λ past h. returns-clause-line g c ∙ ap (λ (agent : AgentState). slice_get (lines_of c.args.show.now agent) c.args.i) h.is
