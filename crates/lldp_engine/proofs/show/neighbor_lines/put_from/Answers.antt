use Rattle.std.proofs.Common.{◌+◌, List, ℕ, sym, subst}
use Rattle.lldp_engine.specs.AgentState.{PortState}
use Rattle.lldp_engine.specs.NeighborLines.{neighbors_lines}
use Rattle.lldp_engine.specs.Takes.{Takes}
use Rattle.lldp_engine.proofs.Lines.Taken.{takes_then}
use Rattle.lldp_engine.proofs.Lines.Cursors.{port_is, ports_behind}
use Rattle.lldp_engine.proofs.show.neighbor_lines.put_from.Goals as goal

pub put_numbered-requires : goal.put_numbered-requires
put_numbered-requires g c =
    (c.requires.at c.index-ports-port.result (port_is c.args.ports.now c.args.cursor.port c.index-ports-port.result c.requires.exists c.index-ports-port.is)).few

pub returns : goal.returns
returns g c =
    let ports = c.args.ports.now in
    let cursor = c.args.cursor in
    let port = c.index-ports-port.result in
    let t = g.S.LineSink.takes in
    let at = c.requires.at port (port_is ports cursor.port port c.requires.exists c.index-ports-port.is) in
    let others = subst (λ (ps : List PortState). Takes t c.put_numbered.new.sink c.put_neighbors.new.sink (neighbors_lines ps)) (ports_behind ports (cursor.port + 1)) c.put_neighbors.ensures in
    subst (λ (lines : List (List ℕ)). Takes t c.args.sink.now c.put_neighbors.new.sink lines) (sym at.rest) (takes_then t _ _ _ _ _ c.put_numbered.ensures others)
