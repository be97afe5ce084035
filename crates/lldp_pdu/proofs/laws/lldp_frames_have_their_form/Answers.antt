use Rattle.lldp_pdu.proofs.Framing.{has_form, of_form}
use Rattle.lldp_pdu.proofs.laws.lldp_frames_have_their_form.Goals as goal

pub returns : goal.returns
returns c = λ frame lldpdu. (has_form frame lldpdu, of_form frame lldpdu)
