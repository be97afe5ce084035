use Rattle.lldp_table.specs.Events.{events_of}
use Rattle.lldp_table.proofs.Live.LastStored.{last_stored_from_held, held_from_last_stored}
use Rattle.lldp_table.proofs.Standing.Lists.{sound_left, stands_left}
use Rattle.lldp_table.proofs.Live.Order.{neighbors_in_order}
use Rattle.lldp_table.proofs.laws.tables_hold_last_stored_frames.Goals as goal

pub returns-clause-held : goal.returns-clause-held
returns-clause-held c = λ opened calls x. (last_stored_from_held opened calls x, held_from_last_stored opened calls x)

pub returns-clause-order : goal.returns-clause-order
returns-clause-order c = λ opened calls. neighbors_in_order (events_of opened calls)

pub returns-clause-sound : goal.returns-clause-sound
returns-clause-sound c = sound_left

pub returns-clause-stands : goal.returns-clause-stands
returns-clause-stands c = stands_left
