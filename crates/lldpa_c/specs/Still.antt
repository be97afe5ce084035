-- Ports that a tick does not change.
use Rattle.std.specs.Prelude.{◌≡◌, ℕ, Bool, ◌&&◌, if◌then◌else◌}
use Rattle.lldp_transmit.specs.declared.event.Mark.TheVariants.{Quiet}
use Rattle.lldp_transmit.specs.Code.Machine.{Machine, ticked}
use Rattle.lldp_engine.specs.AgentState.{PortState}
use Rattle.lldp_engine.specs.Port.Event.{tick}
use Rattle.lldp_engine.specs.Code.PortStep.{port_mark, port_step}

-- a frame waits for credit, or the port may start
abbrev pub may_go : Machine → Bool
may_go m = if m.active then m.waiting else (m.allowed && m.up)

-- a tick does not change the machine, which sends nothing then
abbrev pub IsStillMachine : Machine → Type 0
IsStillMachine m = (n : ℕ) → ((ticked m n).0 ≡ m) × ((ticked m n).1 ≡ Quiet)

-- a tick does not change the port, which sends nothing then
abbrev pub IsStill : PortState → Type 0
IsStill port = (n : ℕ) → (port_step tick n port ≡ port) × (port_mark tick n port ≡ Quiet)
