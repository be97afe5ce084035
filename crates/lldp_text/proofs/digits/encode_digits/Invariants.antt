use Rattle.std.proofs.Common.{◌≡◌, ◌<◌, ◌≤◌, ◌-◌, ℕ, length}
use Rattle.lldp_text.specs.Code.Digits.{AreDigits}
use Rattle.lldp_text.proofs.digits.encode_digits.Given as goal

abbrev pub invariant-blocks-2 : goal.invariant-blocks-2
invariant-blocks-2 l = (length l.digits ≡ length l.fn.digits) × (l.at ≤ length l.octets) × ((i : ℕ) → i < l.at → AreDigits l.octets l.digits i)

abbrev pub decreases-blocks-2 : goal.decreases-blocks-2
decreases-blocks-2 l = length l.octets - l.at
