use Rattle.std.proofs.Common.{rules}
use Rattle.lldp_engine.proofs.command.read_form.Goals as goal

pub returns-in_err-read_show-clause-says : goal.returns-in_err-read_show-clause-says
returns-in_err-read_show-clause-says g c =
    let said = c.in_err-read_show.ensures c.args.agent.now in
    search rules

pub returns-in_ok-read_show-clause-says : goal.returns-in_ok-read_show-clause-says
returns-in_ok-read_show-clause-says g c =
    let said = c.in_ok-read_show.ensures c.args.agent.now in
    search rules
