use Rattle.lldpa_c.proofs.Places.{header_off}
use Rattle.lldpa_c.proofs.frame.lldpa_frame_pdu.Goals as goal

pub returns-in-Some-clause-within : goal.returns-in-Some-clause-within
returns-in-Some-clause-within c _ = (header_off _ _ c.in-Some.ensures.value).1
