use Rattle.lldp_program.proofs.Texts.Taken.{puts_nothing}
use Rattle.lldp_program.proofs.output.Output.make_room.Goals as goal

pub returns-else-room_left-octets-clause-puts : goal.returns-else-room_left-octets-clause-puts
returns-else-room_left-octets-clause-puts g c = puts_nothing _
