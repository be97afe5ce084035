use Rattle.std.proofs.Common.{refl}
use Rattle.lldpa_c.proofs.laws.options_ask_field_by_field.Goals as goal

pub returns : goal.returns
returns c o = record {
  names = refl;
  mac = refl;
  hostname = refl;
  managed = λ h. rw h refl;
  unmanaged = λ h. rw h refl;
  role = λ role h. rw h refl;
  max_neighbors = refl;
  credit_max = refl;
  fast_init = refl;
  reinit = refl;
  receive_only = refl;
}
