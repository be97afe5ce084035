use Rattle.lldp_engine.proofs.ForLaws.Calls.{told_is_true}
use Rattle.lldp_engine.proofs.laws.calls.steps_tell_what_frames_did.Goals as goal

pub returns : goal.returns
returns c = told_is_true
