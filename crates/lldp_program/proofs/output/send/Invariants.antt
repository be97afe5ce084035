use Rattle.std.proofs.Common.{◌≡◌, ◌≤◌, ◌-◌, length, take}
use Rattle.std.specs.Io.KnownBytes.{Appends}
use Rattle.lldp_program.proofs.output.send.Given as goal

-- the first `sent` octets were written
abbrev pub invariant-loop-sent : goal.invariant-loop-sent
invariant-loop-sent g l = record {
  within : l.sent ≤ length l.octets;
  sent : Appends (g.W.Sink.taken l.fn.sink) (g.W.Sink.taken l.sink) (take l.sent l.octets);
  failures : g.W.Sink.failures l.sink ≡ g.W.Sink.failures l.fn.sink;
  place : g.W.Sink.place l.sink ≡ g.W.Sink.place l.fn.sink;
}

abbrev pub decreases-loop-sent : goal.decreases-loop-sent
decreases-loop-sent g l = length l.octets - l.sent
