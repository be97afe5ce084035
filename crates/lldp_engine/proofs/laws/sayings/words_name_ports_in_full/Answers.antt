use Rattle.lldp_engine.proofs.ForLaws.Places.{place_is_first, first_is_place}
use Rattle.lldp_engine.proofs.laws.sayings.words_name_ports_in_full.Goals as goal

pub returns : goal.returns
returns c = λ names word i. (place_is_first names word i, first_is_place names word i)
