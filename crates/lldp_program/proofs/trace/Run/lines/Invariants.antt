use Rattle.std.proofs.Common.{◌≡◌, ◌≤◌, ◌-◌, [], take}
use Rattle.std.specs.Prelude.{Ok}
use Rattle.lldp_program.specs.Trace.Items.{items_of_lines}
use Rattle.lldp_program.specs.Code.Parts.{Performs}
use Rattle.lldp_program.proofs.trace.Run.lines.Given as goal
use Rattle.lldp_program.specs.Code.Pieces.{pieces, unfinished}

-- the lines up to `start` are done
abbrev pub invariant-ended : goal.invariant-ended
invariant-ended g l = record {
  high : l.start ≤ l.held;
  whole : unfinished (take l.start (take l.held l.buffer)) ≡ [];
  run : Performs {T = Unit {0}} g.W.Sink.taken g.W.Sink.failures g.W.Sink.place l.fn.self l.self (λ past. items_of_lines past (pieces (take l.start (take l.held l.buffer)))) (Ok tt);
}

abbrev pub decreases-ended : goal.decreases-ended
decreases-ended g l = l.held - l.start
