use Rattle.std.proofs.Common.{refl, arith}
use Rattle.lldp_engine.proofs.laws.fixed.ranges_end_at_fixed_numbers.Goals as goal

pub returns-clause-constants : goal.returns-clause-constants
returns-clause-constants c = record { neighbors = refl; credit = refl; fast = refl; wait = refl; interval = refl; hold = refl; ttl = refl; octets = refl; body = refl; identifier = refl; address = refl; oid = refl; ports = refl; name = refl; text = refl; lines = refl; line = refl; room = refl; refusals = refl }

pub returns-clause-settings : goal.returns-clause-settings
returns-clause-settings c = λ agent n. record {
  interval = (λ h. (omega arith, omega arith), λ h. (omega arith, omega arith));
  hold = (λ h. (omega arith, omega arith), λ h. (omega arith, omega arith));
}
