-- The numbers by which faults are reported to other programs.
use Rattle.std.specs.Prelude.{ℕ}
use Rattle.lldp_pdu.specs.declared.fault.PduFault.{PduFault}
use Rattle.lldp_pdu.specs.declared.fault.PduFault.TheVariants.{Truncated, NoChassis, ChassisLength, NoPort, PortLength, NoTtl, TtlLength, Repeated}
use Rattle.lldp_pdu.specs.declared.fault.BuildFault.{BuildFault}
use Rattle.lldp_pdu.specs.declared.fault.BuildFault.TheVariants.{Full, Kind, Body}

-- the number of a fault of an LLDPDU
abbrev pub pdu_fault_number : PduFault → ℕ
pdu_fault_number Truncated = 1
pdu_fault_number NoChassis = 2
pdu_fault_number ChassisLength = 3
pdu_fault_number NoPort = 4
pdu_fault_number PortLength = 5
pdu_fault_number NoTtl = 6
pdu_fault_number TtlLength = 7
pdu_fault_number Repeated = 8

-- the number of a fault of `Builder::put`
abbrev pub build_fault_number : BuildFault → ℕ
build_fault_number Full = 1
build_fault_number Kind = 2
build_fault_number Body = 3
