use Rattle.std.proofs.Common.{[]}
use Rattle.lldp_engine.proofs.Headline.{promised, have_sent_exactly}
use Rattle.lldp_program.proofs.serve.listen.Goals as goal

pub returns-in_default-clause-headline : goal.returns-in_default-clause-headline
returns-in_default-clause-headline g c = λ past stands. ([], stands, promised past _ stands, have_sent_exactly past _ stands)
