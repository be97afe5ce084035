-- Statuses of a port (adminStatus, IEEE 802.1AB-2009, 9.2.5.1).
use Rattle.std.specs.Prelude.{Bool, true, false, if◌then◌else◌}
use Rattle.lldp_engine.specs.declared.port.status.Status.{Status}
use Rattle.lldp_engine.specs.declared.port.status.Status.TheVariants.{RxAndTx, RxOnly, TxOnly}
use Rattle.lldp_engine.specs.Options.{Options}

-- True if a port with this status receives.
abbrev pub receives : Status → Bool
receives RxAndTx = true
receives RxOnly = true
receives status = false

-- True if a port with this status may transmit.
abbrev pub transmits : Status → Bool
transmits RxAndTx = true
transmits TxOnly = true
transmits status = false

-- Each port begins as RxAndTx, or as RxOnly if the options ask for that.
abbrev pub status_at_opening : Options → Status
status_at_opening o = if o.receive_only then RxOnly else RxAndTx
