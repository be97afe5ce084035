-- What the adapters report.
use Rattle.std.specs.Prelude.{ℕ, List, Option}
use Rattle.std.specs.Borrow.{GName}
use Rattle.lldp_program.specs.declared.device.FromReader.{FromReader}
use Rattle.lldp_program.specs.declared.device.ToWriter.{ToWriter}

-- the octets that a source has yet to read are those that its reader has left
abbrev pub source_to_come : {R : Type 0} → (R → Option (List ℕ)) → FromReader R → Option (List ℕ)
source_to_come remaining source = remaining source.reader.now

-- how often the source's reader was read
abbrev pub source_calls : {R : Type 0} → FromReader R → ℕ
source_calls source = source.calls

-- how many reads of the source's reader failed
abbrev pub source_failures : {R : Type 0} → FromReader R → ℕ
source_failures source = source.failures

-- how many reads of the source's reader returned the end
abbrev pub source_ends : {R : Type 0} → FromReader R → ℕ
source_ends source = source.ends

-- where a source reads from: the reference to its reader
abbrev pub source_place : {R : Type 0} → FromReader R → GName
source_place source = source.reader.ghost_name

-- the octets that a sink took are those that its writer holds
abbrev pub sink_taken : {W : Type 0} → (W → Option (List ℕ)) → ToWriter W → Option (List ℕ)
sink_taken contents sink = contents sink.writer.now

-- how many writes to the sink's writer failed
abbrev pub sink_failures : {W : Type 0} → ToWriter W → ℕ
sink_failures sink = sink.failures

-- where a sink writes to: the reference to its writer
abbrev pub sink_place : {W : Type 0} → ToWriter W → GName
sink_place sink = sink.writer.ghost_name
