-- The numbers of faults for C: from 1 on for LLDPDUs, from 11 for TLVs that are built, from 21 for
-- opening, and from 31 for commands.
use Rattle.std.specs.Prelude.{ℕ}
use Rattle.lldp_pdu.specs.declared.fault.BuildFault.{BuildFault}
use Rattle.lldp_pdu.specs.declared.fault.BuildFault.TheVariants as tlv
use Rattle.lldp_text.specs.declared.fault.CommandFault.{CommandFault}
use Rattle.lldp_text.specs.declared.fault.CommandFault.TheVariants as command
use Rattle.lldp_engine.specs.declared.agent.open_fault.OpenFault.{OpenFault}
use Rattle.lldp_engine.specs.declared.agent.open_fault.OpenFault.TheVariants as refusal

abbrev pub tlv_fault_number : BuildFault → ℕ
tlv_fault_number tlv.Full = 11
tlv_fault_number tlv.Kind = 12
tlv_fault_number tlv.Body = 13

abbrev pub refusal_number : OpenFault → ℕ
refusal_number refusal.Memory = 21
refusal_number refusal.NoPorts = 22
refusal_number refusal.TooManyPorts = 23
refusal_number refusal.PortName = 24
refusal_number refusal.SamePort = 25
refusal_number refusal.Text = 26

abbrev pub command_fault_number : CommandFault → ℕ
command_fault_number command.Unknown = 31
command_fault_number command.NoSuchPort = 32
command_fault_number command.Number = 33
command_fault_number command.Range = 34
command_fault_number command.Text = 35
command_fault_number command.Extra = 36
command_fault_number command.Quote = 37
command_fault_number command.InUse = 38
