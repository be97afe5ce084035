use Rattle.std.proofs.Common.{rules}
use Rattle.lldp_engine.proofs.Lines.Taken.{takes_line}
use Rattle.lldp_engine.proofs.show.neighbor_lines.put_neighbor.Goals as goal

pub returns : goal.returns
returns g c =
    takes_line _ _ c.put_line.new.sink _ _ _ (search rules) (takes_line _ _ c.put_line-2.new.sink _ _ _ (search rules)
    (takes_line _ _ c.put_line-3.new.sink _ _ _ (search rules) (takes_line _ _ c.put_line-4.new.sink _ _ _ (search rules) (search rules))))
