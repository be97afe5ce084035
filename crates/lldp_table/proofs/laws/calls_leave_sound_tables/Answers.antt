use Rattle.lldp_table.proofs.Standing.Sound.{sound_open, sound_after}
use Rattle.lldp_table.proofs.laws.calls_leave_sound_tables.Goals as goal

pub returns-clause-opened : goal.returns-clause-opened
returns-clause-opened c = sound_open

pub returns-clause-after : goal.returns-clause-after
returns-clause-after c = sound_after
