-- The meaning of the numbers that C passes and receives.
use Rattle.std.specs.Prelude.{◌≡◌, ℕ, zero, suc, List, [], ◌∷◌, map, Option, None, slice_get}
use Rattle.lldp_pdu.specs.declared.fault.PduFault.TheVariants as pdu
use Rattle.lldp_pdu.specs.declared.fault.BuildFault.TheVariants as tlv
use Rattle.lldp_pdu.specs.FaultNumber.{pdu_fault_number}
use Rattle.lldp_text.specs.declared.fault.CommandFault.TheVariants as command
use Rattle.lldp_transmit.specs.declared.event.Cause.TheVariants as cause
use Rattle.lldp_transmit.specs.declared.event.Mark.TheVariants as mark
use Rattle.lldp_engine.specs.declared.agent.options.Role.TheVariants as role
use Rattle.lldp_engine.specs.declared.agent.open_fault.OpenFault.TheVariants as refusal
use Rattle.lldp_engine.specs.declared.port.status.Status.TheVariants as status
use Rattle.lldp_engine.specs.declared.command.Show.TheVariants as shown
use Rattle.lldpa_c.specs.declared.answer.TheConstants.{OK, OUT_OF_RANGE, NO_ROOM, NOT_OPEN, NO_PORT, IS_OPEN}
use Rattle.lldpa_c.specs.declared.news.TheConstants.{NOT_LLDP, DEAF, REFUSED, NEW, CHANGED, SAME, DROPPED, GONE, UNKNOWN}
use Rattle.lldpa_c.specs.declared.due.TheConstants.{NEVER}
use Rattle.lldpa_c.specs.Faults.{tlv_fault_number, refusal_number, command_fault_number}
use Rattle.lldpa_c.specs.Machine.{cause_numbered, mark_number}
use Rattle.lldpa_c.specs.Frame.{mark_numbered}
use Rattle.lldpa_c.specs.Command.{show_number, show_numbered}
use Rattle.lldpa_c.specs.Settings.{status_number}
use Rattle.lldpa_c.specs.Opening.{role_numbered}
use Rattle.lldpa_c.specs.Chassis.{role_number}

-- the item with this number, if the items are numbered from `first` on
abbrev pub item_numbered : {A : Type 0} → ℕ → List A → ℕ → Option A
item_numbered zero items n = slice_get items n
item_numbered (suc first) items zero = None
item_numbered (suc first) items (suc n) = item_numbered first items n

-- The numbers that C passes mean these values, in this order. Other numbers mean nothing.
pub record AreGiven : Type 0 where
  pub causes : (n : ℕ) → cause_numbered n
      ≡ item_numbered 0 (cause.Tick ∷ cause.Change ∷ cause.Neighbor ∷ cause.Stop ∷ cause.Allow ∷ cause.Down ∷ cause.Up ∷ cause.Nothing ∷ []) n
  pub marks : (n : ℕ) → mark_numbered n ≡ item_numbered 1 (mark.Ordinary ∷ mark.Shutdown ∷ []) n
  pub shows : (n : ℕ) → show_numbered n
      ≡ item_numbered 1 (shown.Neighbors ∷ shown.Statistics ∷ shown.Chassis ∷ shown.Configuration ∷ []) n
  pub roles : (n : ℕ) → role_numbered n ≡ item_numbered 0 (role.Station ∷ role.Bridge ∷ role.Router ∷ []) n

-- C receives these numbers for these values.
pub record AreTold : Type 0 where
  pub marks : map mark_number (mark.Quiet ∷ mark.Ordinary ∷ mark.Shutdown ∷ []) ≡ 0 ∷ 1 ∷ 2 ∷ []
  pub shows : map show_number (shown.Neighbors ∷ shown.Statistics ∷ shown.Chassis ∷ shown.Configuration ∷ [])
      ≡ 1 ∷ 2 ∷ 3 ∷ 4 ∷ []
  pub pdu_faults : map pdu_fault_number (pdu.Truncated ∷ pdu.NoChassis ∷ pdu.ChassisLength ∷ pdu.NoPort ∷ pdu.PortLength ∷ pdu.NoTtl ∷ pdu.TtlLength ∷ pdu.Repeated ∷ [])
      ≡ 1 ∷ 2 ∷ 3 ∷ 4 ∷ 5 ∷ 6 ∷ 7 ∷ 8 ∷ []
  pub build_faults : map tlv_fault_number (tlv.Full ∷ tlv.Kind ∷ tlv.Body ∷ []) ≡ 11 ∷ 12 ∷ 13 ∷ []
  pub refusals : map refusal_number (refusal.Memory ∷ refusal.NoPorts ∷ refusal.TooManyPorts ∷ refusal.PortName ∷ refusal.SamePort ∷ refusal.Text ∷ [])
      ≡ 21 ∷ 22 ∷ 23 ∷ 24 ∷ 25 ∷ 26 ∷ []
  pub command_faults : map command_fault_number (command.Unknown ∷ command.NoSuchPort ∷ command.Number ∷ command.Range ∷ command.Text ∷ command.Extra ∷ command.Quote ∷ command.InUse ∷ [])
      ≡ 31 ∷ 32 ∷ 33 ∷ 34 ∷ 35 ∷ 36 ∷ 37 ∷ 38 ∷ []
  pub answers : OK ∷ OUT_OF_RANGE ∷ NO_ROOM ∷ NOT_OPEN ∷ NO_PORT ∷ IS_OPEN ∷ [] ≡ 0 ∷ 100 ∷ 101 ∷ 102 ∷ 103 ∷ 104 ∷ []
  pub news : NOT_LLDP ∷ DEAF ∷ REFUSED ∷ NEW ∷ CHANGED ∷ SAME ∷ DROPPED ∷ GONE ∷ UNKNOWN ∷ []
      ≡ 1 ∷ 2 ∷ 3 ∷ 4 ∷ 5 ∷ 6 ∷ 7 ∷ 8 ∷ 9 ∷ []
  pub statuses : map status_number (status.RxAndTx ∷ status.RxOnly ∷ status.TxOnly ∷ status.Disabled ∷ []) ≡ 0 ∷ 1 ∷ 2 ∷ 3 ∷ []
  pub roles : map role_number (role.Station ∷ role.Bridge ∷ role.Router ∷ []) ≡ 0 ∷ 1 ∷ 2 ∷ []
  pub never : NEVER ≡ 4294967295
