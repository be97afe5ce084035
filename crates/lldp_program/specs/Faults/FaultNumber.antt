-- The numbers of faults.
use Rattle.std.specs.Prelude.{ℕ}
use Rattle.lldp_program.specs.declared.line.LineFault.{LineFault}
use Rattle.lldp_program.specs.declared.line.LineFault.TheVariants.{TooLong, Hex, Command}
use Rattle.lldp_program.specs.declared.serve.ServeFault.{ServeFault}
use Rattle.lldp_program.specs.declared.serve.ServeFault.TheVariants.{Accept}
use Rattle.lldp_program.specs.declared.trace.RunFault.{RunFault}
use Rattle.lldp_program.specs.declared.trace.RunFault.TheVariants.{Read, Write, InputTooLong}

abbrev pub number_of_run_fault : RunFault → ℕ
number_of_run_fault Read = 1
number_of_run_fault Write = 2
number_of_run_fault InputTooLong = 3

abbrev pub number_of_serve_fault : ServeFault → ℕ
number_of_serve_fault Accept = 1

-- the number of the fault of a line: 3 for every fault of a command
abbrev pub number_of_line_fault : LineFault → ℕ
number_of_line_fault TooLong = 1
number_of_line_fault Hex = 2
number_of_line_fault (Command fault) = 3
