use Rattle.lldp_table.proofs.Slots.Counted.{shown_is}
use Rattle.lldp_table.proofs.Ageing.Due.{lefts_of}
use Rattle.lldp_table.proofs.queue.Queue.lefts.Goals as goal

pub returns : goal.returns
returns c = lefts_of c.self.inside.times.shown c.self.inside.slots.items c.lefts_in.result c.args.self.now.shown (shown_is c.self.view_is) (rw c.as_slice.ensures.value at c.lefts_in.ensures)
