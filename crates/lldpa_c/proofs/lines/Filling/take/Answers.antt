use Rattle.std.proofs.Common.{refl, ◌∙◌, rules}
use Rattle.lldpa_c.proofs.Coming.{taken, rest_left, both_leave}
use Rattle.lldpa_c.proofs.lines.Filling.take.Goals as goal

pub returns : goal.returns
returns c =
    let came = taken _ _ _ _ refl c.show_from.ensures.value in
    record {
      agent = c.show_from.ensures.same;
      lines = c.settle.ensures.moved ∙ came.0;
      rest = both_leave _ _ _ (rest_left _ _ _ c.show_from.ensures.value) c.settle.ensures.rest;
      few = search rules;
      size = c.settle.ensures.size ∙ came.1;
      same = c.settle.ensures.same ∙ came.2;
    }
