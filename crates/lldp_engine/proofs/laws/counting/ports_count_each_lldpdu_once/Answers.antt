use Rattle.lldp_engine.proofs.ForLaws.Tally.{refused_adds, leaves_adds, whole_adds, faulty_adds}
use Rattle.lldp_engine.proofs.laws.counting.ports_count_each_lldpdu_once.Goals as goal

pub returns-clause-refused : goal.returns-clause-refused
returns-clause-refused c = λ past i octets pdu fault hears is f. refused_adds past i octets pdu hears is fault f

pub returns-clause-leaves : goal.returns-clause-leaves
returns-clause-leaves c = leaves_adds

pub returns-clause-whole : goal.returns-clause-whole
returns-clause-whole c = whole_adds

pub returns-clause-faulty_tlvs : goal.returns-clause-faulty_tlvs
returns-clause-faulty_tlvs c = faulty_adds
