use Rattle.std.proofs.Common.{◌≡◌, ◌≤◌, ◌<◌, ◌+◌, ◌^◌, take}
use Rattle.lldp_program.proofs.Runs.Progress.{Progress}
use Rattle.lldp_program.proofs.trace.run_trace.Given as goal

abbrev pub invariant-loop-reads : goal.invariant-loop-reads
invariant-loop-reads g l = record {
  few : l.held ≤ 4097;
  so_far : Progress (g.S.Source.to_come l.fn.reader) (g.S.Source.to_come l.reader) (g.W.Sink.taken l.fn.writer) (g.W.Sink.taken l.run.output.sink.now) l.fn.agent l.run.agent.now l.reads (take l.held l.buffer);
  reads : g.S.Source.failures l.reader ≡ g.S.Source.failures l.fn.reader;
  writes : g.W.Sink.failures l.run.output.sink.now ≡ g.W.Sink.failures l.fn.writer;
  ends : g.S.Source.ends l.reader ≡ g.S.Source.ends l.fn.reader;
  read_place : g.S.Source.place l.reader ≡ g.S.Source.place l.fn.reader;
  write_place : g.W.Sink.place l.run.output.sink.now ≡ g.W.Sink.place l.fn.writer;
  agent : l.run.agent.ghost_name ≡ l.initial.run.agent.ghost_name;
  sink : l.run.output.sink.ghost_name ≡ l.initial.run.output.sink.ghost_name;
  calls : g.S.Source.calls l.reader ≤ g.S.Source.calls l.fn.reader + l.reads;
  all_calls : g.S.Source.calls l.fn.reader < 2 ^ 63 → g.S.Source.calls l.reader ≡ g.S.Source.calls l.fn.reader + l.reads;
}
