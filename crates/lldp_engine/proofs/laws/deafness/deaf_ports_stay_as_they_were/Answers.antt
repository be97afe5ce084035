use Rattle.lldp_engine.proofs.ForLaws.Deaf.{tx_only_is_deaf, disabled_is_deaf, down_is_deaf, none_either_way, unheard_leaves}
use Rattle.lldp_engine.proofs.laws.deafness.deaf_ports_stay_as_they_were.Goals as goal
use Rattle.std.specs.Prelude.{◌&&◌}
use Rattle.lldp_pdu.specs.Frame.{lldpdu_of}
use Rattle.lldp_engine.specs.Status.{receives}
use Rattle.lldp_engine.specs.Past.{past_of}
use Rattle.lldp_engine.specs.Port.Past.{status_after, up_after}

pub returns-clause-tx_only : goal.returns-clause-tx_only
returns-clause-tx_only c = tx_only_is_deaf

pub returns-clause-disabled : goal.returns-clause-disabled
returns-clause-disabled c = disabled_is_deaf

pub returns-clause-down : goal.returns-clause-down
returns-clause-down c = down_is_deaf

pub returns-clause-other_frames : goal.returns-clause-other_frames
returns-clause-other_frames c past i octets r e = unheard_leaves past i octets r (none_either_way (receives (status_after past.options (past_of past i)) && up_after (past_of past i)) (lldpdu_of octets) e)
