use Rattle.lldp_engine.specs.NeighborLines.{count_lines, numbered_lines}
use Rattle.lldp_engine.proofs.Lines.Taken.{takes_then}
use Rattle.lldp_engine.proofs.show.neighbor_lines.put_port.Goals as goal

pub returns : goal.returns
returns g c =
    let port = c.args.port.now in
    takes_then _ _ _ _ (count_lines port) (numbered_lines port.name 1 port.table.neighbors) c.put_counts.ensures c.put_numbered.ensures
