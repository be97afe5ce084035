use Rattle.std.proofs.Common.{arith}
use Rattle.lldpa_c.proofs.laws.machines_take_events_in_range.Goals as goal

pub returns : goal.returns
returns c = record {
  least = λ machine can. absurd (omega (arith, can.least));
  most = λ machine n can. absurd (omega (arith, can.most));
  can = λ machine interval credit least most. record { credit = credit; least = omega (arith, least); most = omega (arith, most) };
  credit = λ machine interval over can. absurd (omega (arith, over, can.credit));
  marks = λ t after cause interval mark s h takes stands. (takes.stands s h stands, takes.ordinary s h stands, takes.shutdown s h stands);
}
