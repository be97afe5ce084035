use Rattle.std.proofs.Common.{◌≡◌, ℕ, Ok, Err, [], ◌++◌, take, drop, rules, arith, refl, ap, ◌∙◌, inl, inr, length-append, length-take, length-drop}
use Rattle.lldp_program.specs.declared.device.DeviceFault.TheVariants.{Failed}
use Rattle.lldp_program.proofs.Texts.Written.{consumes_then, consumes_kept, consumes_nothing}
use Rattle.lldp_program.proofs.Lines.Pieces.{held_more}
use Rattle.lldp_program.proofs.Runs.Piece.{ended_with, same_run, held_and_piece, held_no_lf, consumes_end, piece_ends, last_ends}
use Rattle.lldp_program.proofs.Runs.Joined.{done_none}
use Rattle.lldp_program.proofs.Runs.KeepsOn.{done_keeps_on, stopped_keeps_on}
use Rattle.lldp_program.proofs.trace.run_trace.Goals as goal
use Rattle.lldp_program.specs.Code.Pieces.{unfinished}

pub loop-reads-init : goal.loop-reads-init
loop-reads-init g c = record {
  few = search rules;
  so_far = record {
    input = [];
    consumed = consumes_nothing _;
    many = omega arith;
    front = refl;
    done = λ past stands. rw c.new.ensures.taken (done_none past _ _ stands);
  };
  reads = refl;
  writes = search rules;
  ends = refl;
  read_place = refl;
  write_place = search rules;
  agent = refl;
  sink = refl;
  calls = omega arith;
  all_calls = λ below. omega arith;
}

pub lines-requires-clause-no_line : goal.lines-requires-clause-no_line
lines-requires-clause-no_line g c =
    let so_far = c.loop-reads.invariant.so_far in
    held_no_lf c.loop-reads.buffer c.read_more.new.buffer c.loop-reads.held c.in-Ok.n so_far.input c.read_more.ensures.kept so_far.front

pub returns-in_default-clause-run : goal.returns-in_default-clause-run
returns-in_default-clause-run g c =
    let so_far = c.loop-reads.invariant.so_far in
    same_run (g.W.Sink.taken c.loop-reads.run.output.sink.now) _ c.loop-reads.run.agent.now _ (search rules) (search rules) record {
      input = so_far.input;
      consumed = consumes_kept _ _ _ so_far.input so_far.consumed c.in_default.ensures.octets;
      read = tt;
      ends = λ past stands. ended_with {T = Unit {0}} (Ok tt) past _ _ _ so_far.input (so_far.done past stands);
    }

pub returns-in-Ok-rest-clause-run : goal.returns-in-Ok-rest-clause-run
returns-in-Ok-rest-clause-run g c =
    let so_far = c.loop-reads.invariant.so_far in
    let zero : c.in-Ok.n ≡ 0 = omega arith in
    let octets = c.in-Ok.ensures.octets in
    let front : take c.loop-reads.held c.read_more.new.buffer ≡ take 4097 (unfinished so_far.input) = c.read_more.ensures.kept ∙ so_far.front in
    same_run (g.W.Sink.taken c.rest.new.self.output.sink.now) _ c.rest.new.self.agent.now _ (search rules) (search rules) record {
      input = so_far.input;
      consumed = consumes_end _ _ _ so_far.input (drop c.loop-reads.held c.read_more.new.buffer) c.in-Ok.n so_far.consumed zero octets.0;
      read = octets.1 zero;
      ends = λ past stands. let done = so_far.done past stands in
          last_ends {T = Unit {0}} (Ok tt) past _ _ _ _ so_far.input _ front done.written (c.in-Ok-rest.ensures.items_run.ended _ done.stands);
    }

pub returns-in-Err-clause-run : goal.returns-in-Err-clause-run
returns-in-Err-clause-run g c =
    let so_far = c.loop-reads.invariant.so_far in
    let zero : c.in-Ok.n ≡ 0 = omega arith in
    let octets = c.in-Ok.ensures.octets in
    same_run (g.W.Sink.taken c.rest.new.self.output.sink.now) _ c.rest.new.self.agent.now _ (search rules) (search rules) record {
      input = so_far.input;
      consumed = consumes_end _ _ _ so_far.input (drop c.loop-reads.held c.read_more.new.buffer) c.in-Ok.n so_far.consumed zero octets.0;
      read = tt;
      ends = λ past stands. let done = so_far.done past stands in
          inr (octets.1 zero, last_ends {T = Unit {0}} (Err Failed) past _ _ _ _ so_far.input _ (c.read_more.ensures.kept ∙ so_far.front) done.written (c.in-Err.ensures.items_run.ended _ done.stands));
    }

pub returns-in_default-lines-clause-run : goal.returns-in_default-lines-clause-run
returns-in_default-lines-clause-run g c =
    let so_far = c.loop-reads.invariant.so_far in
    let piece = take c.in-Ok.n (drop c.loop-reads.held c.read_more.new.buffer) in
    same_run (g.W.Sink.taken c.lines.new.self.output.sink.now) _ c.lines.new.self.agent.now _ (search rules) (search rules) record {
      input = so_far.input ++ piece;
      consumed = consumes_then _ _ _ so_far.input piece so_far.consumed c.in-Ok.ensures.octets.0;
      read = tt;
      ends = λ past stands. let done = so_far.done past stands in
          inl (ended_with {T = ℕ} (Err Failed) past _ _ _ (so_far.input ++ piece) (piece_ends {T = ℕ} (Err Failed) past _ _ _ _ so_far.input piece _ (held_and_piece c.loop-reads.buffer c.read_more.new.buffer c.loop-reads.held c.in-Ok.n (unfinished so_far.input) c.read_more.ensures.kept so_far.front) done.written (c.in_default-lines.ensures.run.items_run.ended _ done.stands)));
    }

pub returns-clause-run : goal.returns-clause-run
returns-clause-run g c =
    let so_far = c.loop-reads.invariant.so_far in
    same_run (g.W.Sink.taken c.loop-reads.run.output.sink.now) _ c.loop-reads.run.agent.now _ (search rules) (search rules) record {
      input = so_far.input;
      consumed = so_far.consumed;
      read = omega (arith, so_far.many);
      ends = λ past stands. ended_with {T = Unit {0}} (Ok tt) past _ _ _ so_far.input (so_far.done past stands);
    }

pub loop-reads-preserved : goal.loop-reads-preserved
loop-reads-preserved g c =
    let so_far = c.loop-reads.invariant.so_far in
    let new = c.read_more.new.buffer in
    let held = c.loop-reads.held in
    let n = c.in-Ok.n in
    let piece = take n (drop held new) in
    let octets = held_and_piece c.loop-reads.buffer new held n (unfinished so_far.input) c.read_more.ensures.kept so_far.front in
    record {
      few = search rules;
      so_far = record {
        input = so_far.input ++ piece;
        consumed = consumes_then _ _ _ so_far.input piece so_far.consumed c.in-Ok.ensures.octets.0;
        many = omega (arith, so_far.many, length-append so_far.input piece, length-take n (drop held new), length-drop held new);
        front = c.hold-held.ensures.held ∙ ap (take 4097) (c.in-Ok-lines.ensures.rest.1 ∙ ap unfinished octets) ∙ held_more 4097 so_far.input piece;
        done = λ past stands. let done = so_far.done past stands in
            piece_ends {T = ℕ} (Ok 0) past _ _ _ _ so_far.input piece _ octets done.written (c.in-Ok-lines.ensures.run.items_run.ended _ done.stands);
      };
      reads = search rules;
      writes = search rules;
      ends = grind (arith);
      read_place = search rules;
      write_place = search rules;
      agent = search rules;
      sink = search rules;
      calls = omega (arith, c.loop-reads.invariant.calls, c.read_more.ensures.calls);
      all_calls = λ below. omega (arith, c.loop-reads.invariant.all_calls below, c.read_more.ensures.calls);
    }

pub returns-in-Ok-rest-clause-headline : goal.returns-in-Ok-rest-clause-headline
returns-in-Ok-rest-clause-headline g c past stands = done_keeps_on past _ _ _ _ ((returns-in-Ok-rest-clause-run g c).ends past stands)

pub returns-in-Err-clause-headline : goal.returns-in-Err-clause-headline
returns-in-Err-clause-headline g c past stands = stopped_keeps_on past (returns-in-Err-clause-run g c).input _ _ _ _ ((returns-in-Err-clause-run g c).ends past stands)

pub returns-in_default-lines-clause-headline : goal.returns-in_default-lines-clause-headline
returns-in_default-lines-clause-headline g c past stands = stopped_keeps_on past (returns-in_default-lines-clause-run g c).input _ _ _ _ ((returns-in_default-lines-clause-run g c).ends past stands)

pub returns-in_default-clause-headline : goal.returns-in_default-clause-headline
returns-in_default-clause-headline g c past stands = done_keeps_on past _ _ _ _ ((returns-in_default-clause-run g c).ends past stands)

pub returns-clause-headline : goal.returns-clause-headline
returns-clause-headline g c past stands = done_keeps_on past _ _ _ _ ((returns-clause-run g c).ends past stands)
