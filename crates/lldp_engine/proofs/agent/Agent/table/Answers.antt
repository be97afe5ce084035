use Rattle.std.proofs.Common.{sym, subst, arith}
use Rattle.lldp_table.specs.Contents.{Contents}
use Rattle.lldp_table.specs.Standing.{Stands as TableStands}
use Rattle.lldp_engine.specs.Past.{past_of}
use Rattle.lldp_engine.specs.Port.Past.{calls_after}
use Rattle.lldp_engine.proofs.Readers.{number_reads}
use Rattle.lldp_engine.proofs.Headline.Promise.{table_reads}
use Rattle.lldp_engine.proofs.agent.Agent.table.Goals as goal

pub returns-clause-past : goal.returns-clause-past
returns-clause-past g c = λ past h.
    let is = c.port.ensures.past past h in
    subst (λ (t : Contents). TableStands past.options.max_neighbors (calls_after past.options (past_of past c.args.port)) t) (sym c.table.ensures)
    (table_reads past c.args.self.now c.args.port _ (omega (arith, c.requires, number_reads past c.args.self.now h)) h is)
