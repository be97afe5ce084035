use Rattle.lldp_text.proofs.WordsBounds.{words_left-short}
use Rattle.lldp_text.proofs.splitting.split.Goals as goal

pub returns-clause-short : goal.returns-clause-short
returns-clause-short c = words_left-short c.args.line.now
