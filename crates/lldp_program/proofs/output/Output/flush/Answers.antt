use Rattle.std.proofs.Common.{sym, ◌∙◌, refl}
use Rattle.lldp_program.proofs.Texts.Taken.{flushed}
use Rattle.lldp_program.proofs.output.Output.flush.Goals as goal

pub returns-then-is_ok : goal.returns-then-is_ok
returns-then-is_ok g c =
    flushed _ _ (sym c.is_ok.ensures.value ∙ c.if-is_ok.true) c.clear.ensures (rw c.as_slice.ensures at c.send-self.ensures.written) record {
      failures = c.send-self.ensures.failures;
      place = c.send-self.ensures.place;
      sink = refl;
    }
