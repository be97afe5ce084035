use Rattle.std.proofs.Common.{refl}
use Rattle.lldp_pdu.specs.Draft.{lldpdu_octets}
use Rattle.lldp_pdu.proofs.Drafts.{built, built_short, finished}
use Rattle.lldp_pdu.proofs.laws.drafts_are_read_back.Goals as goal

pub returns-clause-short : goal.returns-clause-short
returns-clause-short c = built_short

pub returns-clause-read_back : goal.returns-clause-read_back
returns-clause-read_back c = λ draft can. finished draft (lldpdu_octets draft) (built draft can).0 refl
