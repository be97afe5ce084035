use Rattle.std.proofs.Common.{sym}
use Rattle.lldp_text.proofs.WordsBounds.{words_of-unquoted}
use Rattle.lldp_text.proofs.splitting.check_quotes.Goals as goal

pub returns-then-is_none-clause-ok : goal.returns-then-is_none-clause-ok
returns-then-is_none-clause-ok c = sym (words_of-unquoted c.args.line.now c.memchr.result c.memchr.ensures c.if-is_none.ensures)
