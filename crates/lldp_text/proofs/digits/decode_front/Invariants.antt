use Rattle.std.proofs.Common.{◌≡◌, ◌*◌, ◌<◌, ◌≤◌, ◌-◌, ℕ, length}
use Rattle.lldp_text.specs.Code.Digits.{ArePairs}
use Rattle.lldp_text.proofs.digits.decode_front.Given as goal

abbrev pub invariant-blocks-2 : goal.invariant-blocks-2
invariant-blocks-2 l = record {
  len : length l.octets ≡ length l.fn.octets;
  within : 2 * l.at ≤ l.most;
  pairs : (i : ℕ) → i < l.at → ArePairs l.text l.octets i;
}

abbrev pub decreases-blocks-2 : goal.decreases-blocks-2
decreases-blocks-2 l = length l.octets - l.at
