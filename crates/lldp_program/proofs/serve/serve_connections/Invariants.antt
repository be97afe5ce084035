use Rattle.std.proofs.Common.{◌≡◌, ◌≤◌, length, List}
use Rattle.lldp_engine.specs.Past.{Past}
use Rattle.lldp_engine.specs.Standing.{Stands}
use Rattle.lldp_program.specs.Devices.Acceptors.{Visit, logged}
use Rattle.lldp_program.specs.Trace.Runs.{KeepsOn}
use Rattle.lldp_program.specs.Serving.{AreRun, calls_of, results_of, faults_of}
use Rattle.lldp_program.proofs.serve.serve_connections.Given as goal

-- each connection so far was accepted, and its trace was run
abbrev pub invariant-loop-served : goal.invariant-loop-served
invariant-loop-served g l = record {
  few : l.faulty ≤ l._served;
  runs : (visits : List (Visit _))
      × AreRun g.D.Acceptor.to_come g.D.Acceptor.taken visits l.fn.agent l.agent
      × (length (results_of visits) ≡ l._served)
      × (l.faulty ≡ faults_of (results_of visits))
      × (g.D.Acceptor.asked l.acceptor ≡ logged (calls_of visits) (g.D.Acceptor.asked l.fn.acceptor));
  keeps : (past : Past) → Stands past l.fn.agent → KeepsOn past l.agent;
}
