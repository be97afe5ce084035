-- Why the program ends with a status other than 0, and the line that reports it.
use Rattle.std.specs.Prelude.{ℕ, List, Result, Ok, Err, codes}
use Rattle.lldp_engine.specs.declared.agent.open_fault.OpenFault.TheVariants.{Memory, NoPorts, TooManyPorts, PortName, SamePort, Text}
use Rattle.lldp_program.specs.declared.arguments.AddressFault.TheVariants.{Mac, Management}
use Rattle.lldp_program.specs.declared.device.DeviceFault.{DeviceFault}
use Rattle.lldp_program.specs.declared.fault.ProgramFault.{ProgramFault}
use Rattle.lldp_program.specs.declared.fault.ProgramFault.TheVariants.{Run, Socket, Opening, Address}
use Rattle.lldp_program.specs.declared.trace.RunFault.{RunFault}
use Rattle.lldp_program.specs.declared.trace.RunFault.TheVariants.{Read, Write, InputTooLong}

-- the line of a fault, with its LF
abbrev pub line_of : ProgramFault → List ℕ
line_of (Run Read) = codes "lldpa: read failed\n"
line_of (Run Write) = codes "lldpa: write failed\n"
line_of (Run InputTooLong) = codes "lldpa: input too long\n"
line_of Socket = codes "lldpa: socket failed\n"
line_of (Opening Memory) = codes "lldpa: no memory\n"
line_of (Opening NoPorts) = codes "lldpa: no ports\n"
line_of (Opening TooManyPorts) = codes "lldpa: too many ports\n"
line_of (Opening PortName) = codes "lldpa: bad port name\n"
line_of (Opening SamePort) = codes "lldpa: same port twice\n"
line_of (Opening Text) = codes "lldpa: bad text\n"
line_of (Address Mac) = codes "lldpa: bad --mac\n"
line_of (Address Management) = codes "lldpa: bad --management\n"

-- the status of a fault: 1 for a device, a socket or a trace that is too long, else 2
abbrev pub status_of : ProgramFault → ℕ
status_of (Run fault) = 1
status_of Socket = 1
status_of refusal = 2

-- how the program ends after a run and the flush; if both failed, with the fault of the run
abbrev pub ended_by : Result (Unit {0}) RunFault → Result (Unit {0}) DeviceFault → Result (Unit {0}) ProgramFault
ended_by (Ok done) (Ok flushed) = Ok tt
ended_by (Ok done) (Err fault) = Err (Run Write)
ended_by (Err fault) flushed = Err (Run fault)
