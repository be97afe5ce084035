-- No place of a slot before `from` has the MSAP identifier.
use Rattle.std.proofs.Common.{◌≡◌, ◌<◌, ◌≤◌, ◌-◌, ℕ, false, length, get_or}
use Rattle.lldp_pdu.specs.View.{msap_view}
use Rattle.lldp_table.specs.Msap.{same_msap}
use Rattle.lldp_table.specs.Code.Layout.{msap_at}
use Rattle.lldp_table.proofs.order.place_of.Given as goal

abbrev pub invariant-tagged : goal.invariant-tagged
invariant-tagged l = record {
  within : l.from ≤ length l.slots;
  none : (k : ℕ) → k < length l.order → get_or l.order k 0 < l.from → same_msap (msap_view l.name) (msap_at l.slots (get_or l.order k 0)) ≡ false;
}

abbrev pub decreases-tagged : goal.decreases-tagged
decreases-tagged l = length l.slots - l.from
