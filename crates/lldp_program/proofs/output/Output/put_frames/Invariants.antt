use Rattle.std.proofs.Common.{take}
use Rattle.std.specs.List.{flat_map}
use Rattle.lldp_engine.specs.AgentState.{names_of}
use Rattle.lldp_program.specs.Code.Output.{Puts}
use Rattle.lldp_program.specs.Trace.Sent.{mark_line}
use Rattle.lldp_program.specs.Code.Parts.{Between}
use Rattle.lldp_program.proofs.output.Output.put_frames.Given as goal

-- the lines of the ports before this one were added
abbrev pub invariant-loop-port : goal.invariant-loop-port
invariant-loop-port g l = Between g.W.Sink.taken g.W.Sink.failures g.W.Sink.place l.fn.self l.self (Puts (flat_map (mark_line (names_of l.agent) l.agent.configuration) (take l.port-index l.port-items)))
