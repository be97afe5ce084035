use Rattle.std.proofs.Common.{◌≡◌, ◌≤◌, length, take}
use Rattle.lldp_engine.specs.Port.EventView.{port_event_of}
use Rattle.lldp_engine.specs.Code.Step.{marks_step}
use Rattle.lldp_engine.proofs.AllPorts.EachPort.{so_far}
use Rattle.lldp_engine.proofs.agent.ports.each_takes.Given as goal
use Rattle.lldp_engine.specs.Code.Whose.{each_port}

-- The ports before this one have handled the event, and `marks` lists what they send.
abbrev pub invariant-loop-i : goal.invariant-loop-i
invariant-loop-i g l = record {
  ports : l.ports ≡ so_far (port_event_of l.fn.event) l.fn.interval l.i l.fn.ports;
  marks : l.marks.items ≡ marks_step (each_port (port_event_of l.fn.event)) l.fn.interval 0 (take l.i l.fn.ports);
  few : length l.marks.items ≤ l.i;
}
