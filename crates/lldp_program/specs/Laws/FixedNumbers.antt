-- The numbers of statuses, bounds and faults, how the program ends, and where it listens.
use Rattle.std.specs.Prelude.{codes, ◌≡◌, [], ◌∷◌, map, Result, Ok, Err}
use Rattle.lldp_engine.specs.declared.agent.open_fault.OpenFault.TheVariants as opening
use Rattle.lldp_text.specs.declared.fault.CommandFault.{CommandFault}
use Rattle.lldp_program.specs.declared.arguments.AddressFault.TheVariants as address
use Rattle.lldp_program.specs.declared.arguments.TheConstants.{MOST_CONNECTIONS, MOST_TCP_PORT}
use Rattle.lldp_program.specs.declared.device.DeviceFault.{DeviceFault}
use Rattle.lldp_program.specs.declared.line.LineFault.TheVariants.{TooLong, Hex, Command}
use Rattle.lldp_program.specs.declared.line.TheConstants.{LONGEST, MOST_TICKS}
use Rattle.lldp_program.specs.declared.program.TheConstants.{DONE, REFUSED}
use Rattle.lldp_program.specs.declared.serve.ServeFault.TheVariants.{Accept}
use Rattle.lldp_program.specs.declared.trace.RunFault.{RunFault}
use Rattle.lldp_program.specs.declared.trace.RunFault.TheVariants.{Read, Write, InputTooLong}
use Rattle.lldp_program.specs.declared.trace.TheConstants.{MOST_READS}
use Rattle.lldp_program.specs.declared.fault.ProgramFault.TheVariants as program
use Rattle.lldp_program.specs.Faults.ProgramFault.{ended_by, line_of, status_of}
use Rattle.lldp_program.specs.Serving.{this_host}
use Rattle.lldp_program.specs.Faults.FaultNumber.{number_of_run_fault, number_of_serve_fault, number_of_line_fault}
use Rattle.lldp_program.specs.Ranges.{most_connections, most_of_line, most_tcp_port, most_reads, most_ticks}

-- The statuses 0 and 2; the most octets of a line and ticks that it asks for; the most reads of a run; the greatest
-- values of `--listen` and `--connections`; the numbers of faults;
-- the status of each fault, 1 for the first four and 2 for the others; the octets of 127.0.0.1.
pub record AreNumbers : Type 0 where
  pub statuses : DONE ∷ REFUSED ∷ [] ≡ 0 ∷ 2 ∷ []
  pub longest : LONGEST ≡ most_of_line
  pub reads : MOST_READS ≡ most_reads
  pub port : MOST_TCP_PORT ≡ most_tcp_port
  pub connections : MOST_CONNECTIONS ≡ most_connections
  pub ticks : MOST_TICKS ≡ most_ticks
  pub runs : map number_of_run_fault (Read ∷ Write ∷ InputTooLong ∷ []) ≡ 1 ∷ 2 ∷ 3 ∷ []
  pub serving : map number_of_serve_fault (Accept ∷ []) ≡ 1 ∷ []
  pub lines : (fault : CommandFault) → map number_of_line_fault (TooLong ∷ Hex ∷ Command fault ∷ []) ≡ 1 ∷ 2 ∷ 3 ∷ []
  pub ends : map status_of
      (program.Run Read ∷ program.Run Write ∷ program.Run InputTooLong ∷ program.Socket
      ∷ program.Opening opening.Memory ∷ program.Opening opening.NoPorts ∷ program.Opening opening.TooManyPorts
      ∷ program.Opening opening.PortName ∷ program.Opening opening.SamePort ∷ program.Opening opening.Text
      ∷ program.Address address.Mac ∷ program.Address address.Management ∷ [])
      ≡ 1 ∷ 1 ∷ 1 ∷ 1 ∷ 2 ∷ 2 ∷ 2 ∷ 2 ∷ 2 ∷ 2 ∷ 2 ∷ 2 ∷ []
  pub host : this_host ≡ 127 ∷ 0 ∷ 0 ∷ 1 ∷ []

-- How the program ends: the line of each fault of a run, a socket, an opening or an address. If both
-- the run and the flush fail, the run's fault counts.
pub record AreEnds : Type 0 where
  pub lines : map line_of
      (program.Run Read ∷ program.Run Write ∷ program.Run InputTooLong ∷ program.Socket
      ∷ program.Opening opening.Memory ∷ program.Opening opening.NoPorts ∷ program.Opening opening.TooManyPorts
      ∷ program.Opening opening.PortName ∷ program.Opening opening.SamePort ∷ program.Opening opening.Text
      ∷ program.Address address.Mac ∷ program.Address address.Management ∷ [])
      ≡ codes "lldpa: read failed\n" ∷ codes "lldpa: write failed\n" ∷ codes "lldpa: input too long\n"
      ∷ codes "lldpa: socket failed\n" ∷ codes "lldpa: no memory\n" ∷ codes "lldpa: no ports\n"
      ∷ codes "lldpa: too many ports\n" ∷ codes "lldpa: bad port name\n" ∷ codes "lldpa: same port twice\n"
      ∷ codes "lldpa: bad text\n" ∷ codes "lldpa: bad --mac\n" ∷ codes "lldpa: bad --management\n" ∷ []
  pub done : ended_by (Ok tt) (Ok tt) ≡ Ok tt
  pub flush : (fault : DeviceFault) → ended_by (Ok tt) (Err fault) ≡ Err (program.Run Write)
  pub run : (fault : RunFault) (flushed : Result (Unit {0}) DeviceFault) →
      ended_by (Err fault) flushed ≡ Err (program.Run fault)
